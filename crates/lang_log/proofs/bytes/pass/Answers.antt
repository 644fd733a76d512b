use Rattle.std.proofs.Common.{◌-◌, subst, arith, take_all, length, drop}
use Rattle.std.proofs.lemmas.List.{length-drop}
use Rattle.lang_log.specs.Spelling.{BeginsWith, BeginsWithNone}
use Rattle.lang_log.proofs.Spelled.{passed_one}
use Rattle.lang_log.proofs.bytes.pass.Goals as goal

pub loop-passed-preserved : goal.loop-passed-preserved
loop-passed-preserved c =
    let bytes = c.args.bytes.now in
    let taken = c.loop-passed.passed.bytes in
    let found = c.in-Some.ensures.found in (
      passed_one bytes c.loop-passed.passed.appends taken c.in-Some.size found.0 c.loop-passed.invariant.0
          (subst (λ xs. BeginsWith xs found.0) (take_all (length bytes - taken) (drop taken bytes) (omega (arith, length-drop taken bytes))) found.1)
          found.2,
      omega (arith, c.loop-passed-test.true),
    )

pub returns-in_default : goal.returns-in_default
returns-in_default c =
    let bytes = c.args.bytes.now in
    let taken = c.loop-passed.passed.bytes in
    record {
      so_far = c.loop-passed.invariant.0;
      upto = c.loop-passed.invariant.1;
      ends = λ _. subst BeginsWithNone (take_all (length bytes - taken) (drop taken bytes) (omega (arith, length-drop taken bytes)))
          (c.size_of_first.ensures.none c.in_default.is);
    }
