-- A plan that was made behind reads is one from before them: the blocks and the bookkeeping are the same.
use Rattle.std.proofs.Common.{◌≡◌, inl, inr, ◌≤◌, Bool, false, IsTrue, length, Result, Ok, Err, sym, subst, ap, arith, ℕ, List}
use Rattle.lang_tree.specs.declared.command.Cmd.{Cmd}
use Rattle.lang_tree.specs.declared.command.Refusal.{Refusal}
use Rattle.lang_tree.specs.Step.{Session}
use Rattle.base_types.specs.Seal.{Blocks}
use Rattle.lang_tree.specs.Sharing.{SharedNodes}
use Rattle.engine_blocks.specs.Crashes.{Advances}
use Rattle.engine_blocks.specs.State.{Bookkeeping, State, reusable_blocks}
use Rattle.fs_files.specs.Effects.{LooksOnly}
use Rattle.fs_session.specs.declared.plan.Plan.{Plan}
use Rattle.fs_session.specs.declared.plan.Plan.TheVariants.{Answer, Change}
use Rattle.fs_session.specs.Commands.{figures_on, FindsRuns, places_of}
use Rattle.fs_session.specs.Plans.{Plans, PlanIs, plan_fails_reading, plan_fails_settling}
use Rattle.fs_session.specs.Sessions.{IsSession}
use Rattle.fs_session.specs.Staying.{session_stays}
use Rattle.fs_commands.proofs.Given.{Rests}
use Rattle.fs_commands.proofs.planning.Looking.{advances, calm_on, looked_calmly, settled_after}
use Rattle.fs_files.specs.Drafts.{DraftState}
use Rattle.fs_session.specs.Changes.{Uses}

-- What is said of a plan speaks of the bookkeeping and the map of the blocks before, and of nothing else of them.
module _ (s t u : State) (f : Session) (cmd : Cmd) where
  runs_at : (l : Bookkeeping) → FindsRuns t l f cmd → FindsRuns (record s { books = t.books; map = t.map }) l f cmd
  runs_at l h k some grown = let r = h k some grown in record { enough = r.enough; runs = r.runs }

  uses_at : (n m : ℕ) (l : List ℕ) (q : ℕ → List ℕ) (renewed : SharedNodes) (d : DraftState) → Uses n m l renewed (places_of t) q d → Uses n m l renewed (places_of (record s { books = t.books; map = t.map })) q d
  uses_at n m l q renewed d h = record { taken = h.taken; freed_are = h.freed_are; placed = h.placed }

  plan_at : (result : Result Plan Refusal) → PlanIs cmd result t u f → PlanIs cmd result (record s { books = t.books; map = t.map }) u f
  plan_at (Ok (Answer reply)) h = assumption (runs_at u.books h.runs)
  plan_at (Ok (Change d cost first)) h = assumption (runs_at u.books h.runs, uses_at _ _ _ _ _ d h.uses)
  plan_at (Err why) (inl x) = inl (record { accepted = x.accepted; lacks = x.lacks; rests = x.rests })
  plan_at (Err why) (inr (inl x)) = inr (inl (record { accepted = x.accepted; room = x.room; node = x.node; grows = x.grows; enough = x.enough; is = x.is; past = x.past }))
  plan_at (Err why) (inr (inr (inl x))) = inr (inr (inl (record { accepted = x.accepted; room = x.room; is = x.is; short = x.short })))
  plan_at (Err why) (inr (inr (inr short))) = inr (inr (inr short))

  plan_before : t.books ≡ s.books → t.map ≡ s.map → (result : Result Plan Refusal) → PlanIs cmd result t u f → PlanIs cmd result s u f
  plan_before books map result h =
      subst (λ m. PlanIs cmd result (record s { map = m }) u f) map (subst (λ b. PlanIs cmd result (record s { books = b; map = t.map }) u f) books (plan_at result h))

  enough_before : t.books ≡ s.books → t.map ≡ s.map → (figures_on s f cmd).need ≤ length (reusable_blocks s.books) → (figures_on t f cmd).need ≤ length (reusable_blocks t.books)
  enough_before books map enough = subst (λ (m : Blocks). (figures_on (record t { map = m }) f cmd).need ≤ length (reusable_blocks t.books)) (sym map)
      (subst (λ (b : Bookkeeping). (figures_on (record s { books = b }) f cmd).need ≤ length (reusable_blocks b)) (sym books) enough)

plans_behind : (tells : Bool) (cmd : Cmd) (result : Result Plan Refusal) (s t u : State) → s.books.stopped ≡ false → LooksOnly tells false s t → (IsTrue tells → Advances s u) → Plans tells cmd result t u → Plans tells cmd result s u
plans_behind tells cmd result s t u going looks advances plans = record {
  is = λ told f h. plan_before s t u f cmd looks.books (looks.map told) result (plans.is told f (still told f h));
  going = going;
  quiet = λ told f h enough. calm_on s t u (looked_calmly tells false s t looks told) (plans.quiet told f (still told f h) (enough_before s t u f cmd looks.books (looks.map told) enough));
  settles = settled_after tells (plan_fails_reading result) (plan_fails_settling result) s t u looks plans.settles advances;
}
  where
    still : IsTrue tells → (f : Session) → IsSession s f → IsSession t f
    still told f h = session_stays s t f going (ap (λ (b : Bookkeeping). b.geom) looks.books) (looks.map told) (ap (λ (b : Bookkeeping). b.point) looks.books) (ap (λ (b : Bookkeeping). b.running.weight) looks.books)
        (omega (arith, ap (λ (b : Bookkeeping). b.floor) looks.books)) h

-- so over blocks whose calls compose
pub looked_first : {S : Type 0} (tells : Bool) (state : S → State) → Rests tells state → ((old mid new : S) → Advances (state old) (state mid) → Advances (state mid) (state new) → Advances (state old) (state new))
    → (cmd : Cmd) (result : Result Plan Refusal) (old mid new : S) → (state old).books.stopped ≡ false → LooksOnly tells false (state old) (state mid) → Plans tells cmd result (state mid) (state new) → Plans tells cmd result (state old) (state new)
looked_first tells state rests compose cmd result old mid new going looks plans =
    plans_behind tells cmd result (state old) (state mid) (state new) going looks (λ told. compose old mid new (advances tells state rests false old mid looks told) (plans.settles.crash told)) plans
