-- When a sync may follow a draft, where none was finished just before.
use Rattle.std.proofs.Common.{◌≡◌, ℕ, zero, suc, ◌+◌, false, refl, ap, ◌∙◌, arith, rules}
use Rattle.std.proofs.lemmas.Bool.Decides.{nat_tests}
use Rattle.std.proofs.lemmas.Grind.{common_steps}
use Rattle.engine_blocks.specs.Running.{payloads, fresh_blocks, is_bare, nothing_running, HasNoBare}
use Rattle.engine_blocks.specs.State.{Bookkeeping}
use Rattle.engine_blocks.specs.Calls.{IsAfterSync}
use Rattle.fs_files.specs.Finish.{MayGoOn}
use Rattle.fs_files.proofs.finishing.Counts.{counted}

pub begun : (k : Bookkeeping) → k.running.weight ≡ 0 → payloads k.geom k.running ≡ 0 → fresh_blocks k.geom k.running ≡ 0 → HasNoBare k.running → MayGoOn k
begun k weight none nothing bare = grind (arith, nat_tests)

pub rests : (old new : Bookkeeping) → new.geom ≡ old.geom → new.running ≡ old.running → MayGoOn old → MayGoOn new
rests old new g r on = search (rules, arith)

none_pass : (a n : ℕ) → counted (λ b. false) a n ≡ 0
none_pass a zero = refl
none_pass a (suc n) = none_pass (a + 1) n

empty : (k : Bookkeeping) → k.running ≡ nothing_running → MayGoOn k
empty k e = begun k (ap (λ x. x.weight) e) (ap (payloads k.geom) e ∙ none_pass 0 k.geom.n) (ap (fresh_blocks k.geom) e ∙ none_pass 0 k.geom.n) (λ b. ap (λ x. is_bare (x.roles b)) e)

pub synced : (old new : Bookkeeping) → IsAfterSync old new → MayGoOn old → MayGoOn new
synced old new after on = grind (arith, common_steps, rests, empty)
