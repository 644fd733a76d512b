use Rattle.std.proofs.Common.{inl, inr, ⊎_elim, [], refl, arith}
use Rattle.std.proofs.lemmas.Bool.{cases_lt}
use Rattle.lang_log.specs.History.{opened_with}
use Rattle.lang_log.specs.Runs.{found_in}
use Rattle.cmd_log.proofs.Moments.{seen}
use Rattle.cmd_log.proofs.laws.each_image_has_what_was_synced.Goals as goal

pub returns : goal.returns
returns c = λ n base log begun opened calls replies marks now up opening serves moment img within honest.
    seen
    (record {
      now = c.what_might_be_left_still_may.ensures.now;
      still = c.what_might_be_left_still_may.ensures.still;
      only = c.what_might_be_left_still_may.ensures.synced;
      more = c.calls_of_a_log_go_on.ensures.more;
      opened = c.a_run_of_calls_leaves_runs.ensures.opened;
    })
    n base log opened now moment img within honest begun (opened_with opened) [] [] (found_in opened) opened.low (c.calls_of_a_log_go_on.ensures.none (opened_with opened)) refl (omega arith)
    (⊎_elim (λ late. inl (omega (arith, late))) (λ early. inr (opening moment early)) (cases_lt begun moment)) calls replies marks up serves
