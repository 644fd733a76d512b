use Rattle.std.proofs.Common.{◌≡◌, map, take, Some}
use Rattle.cmd_words.specs.ChoiceTexts.{with_more, all_of, tear_of}
use Rattle.cmd_words.proofs.choice_parse.add_each_tear.Given as goal

abbrev pub invariant-loop-item : goal.invariant-loop-item
invariant-loop-item l =
    with_more l.fn.choice (all_of (take l.item-index (map tear_of (map (λ item. item.now) l.items)))) ≡ Some l.choice
