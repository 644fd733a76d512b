use Rattle.std.proofs.Common.{◌≡◌, rules, get_or, [], Some, None}
use Rattle.cmd_words.specs.ChoiceTexts.{tear_of}
use Rattle.cmd_words.proofs.ChoiceLists.{one_more, none_at}
use Rattle.cmd_words.proofs.choice_parse.add_each_tear.Goals as goal

pub returns-in_default : goal.returns-in_default
returns-in_default c =
    let found : tear_of (get_or c.args.items.now c.loop-item.item-index record { ref_ptr = (0, 0); now = [] }).now ≡ None = search (rules, c.in_ok-tear.ensures) in
    none_at tear_of c.args.items.now c.loop-item.item-index record { ref_ptr = (0, 0); now = [] } c.loop-item-test.true found

pub loop-item-preserved : goal.loop-item-preserved
loop-item-preserved c =
    let found : tear_of (get_or c.args.items.now c.loop-item.item-index record { ref_ptr = (0, 0); now = [] }).now ≡ Some c.in-Some.tear = search (rules, c.in_ok-tear.ensures) in
    let kept = one_more tear_of c.args.choice.now c.loop-item.choice c.args.items.now c.loop-item.item-index record { ref_ptr = (0, 0); now = [] } c.in-Some.tear c.loop-item-test.true found c.loop-item.invariant in
    rw c.in_ok-add.ensures kept
