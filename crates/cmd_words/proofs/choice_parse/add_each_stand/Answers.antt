use Rattle.std.proofs.Common.{◌≡◌, rules, get_or, [], Some, None}
use Rattle.disk_memory.specs.declared.choice.Fate.TheVariants.{Stands}
use Rattle.cmd_words.specs.ChoiceTexts.{stand_of}
use Rattle.cmd_words.proofs.ChoiceLists.{one_more, none_at}
use Rattle.cmd_words.proofs.choice_parse.add_each_stand.Goals as goal

pub returns-in_default : goal.returns-in_default
returns-in_default c =
    let found : stand_of (get_or c.args.items.now c.loop-item.item-index record { ref_ptr = (0, 0); now = [] }).now ≡ None = search (rules, c.in_default.ensures) in
    none_at stand_of c.args.items.now c.loop-item.item-index record { ref_ptr = (0, 0); now = [] } c.loop-item-test.true found

pub loop-item-preserved : goal.loop-item-preserved
loop-item-preserved c =
    let found : stand_of (get_or c.args.items.now c.loop-item.item-index record { ref_ptr = (0, 0); now = [] }).now ≡ Some record { write = c.in-Some.write; fate = Stands } = search (rules, c.in-Some.ensures) in
    let kept = one_more stand_of c.args.choice.now c.loop-item.choice c.args.items.now c.loop-item.item-index record { ref_ptr = (0, 0); now = [] } record { write = c.in-Some.write; fate = Stands } c.loop-item-test.true found c.loop-item.invariant in
    rw c.in_ok-stand.ensures.done kept
