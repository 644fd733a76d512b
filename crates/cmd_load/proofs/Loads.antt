-- The commands of a load, one after the other.
use Rattle.std.proofs.Common.{◌≡◌, ℕ, suc, ◌+◌, ◌-◌, ◌^◌, ◌<◌, ◌≤◌, Bool, true, false, if◌then◌else◌, List, refl, sym, ap, ◌∙◌, subst, arith}
use Rattle.lang_load.specs.Load.{load_commands, next_command, state_behind}
use Rattle.lang_tree.specs.declared.command.Cmd.{Cmd}
use Rattle.lang_tree.specs.declared.command.Reply.{Reply}
use Rattle.lang_tree.specs.Points.{is_refusal}
use Rattle.base_types.specs.Seal.{sha256}
use Rattle.lang_tree.specs.Listing.{listing}
use Rattle.lang_tree.specs.Step.{Session}
use Rattle.engine_blocks.specs.State.{State}
use Rattle.fs_session.specs.Sessions.{IsSession}
use Rattle.cmd_load.specs.Summary.{Progress, Totals, after, after_all, at_first, summary_of}
use Rattle.cmd_load.specs.Serving.{IsAnswered, Serves, has_run_out}
use Rattle.fs_session.specs.NothingKept.{CostsAsAlone}
use Rattle.cmd_load.proofs.Steps.{refused_on, serves_on}
use Rattle.cmd_load.proofs.Trees.{IsLoadCommand, next_is_load}

-- So many of the commands were answered: the blocks have come so far, and with the commands that the load goes on with they come as far as with all of them.
pub record ServesTo (seed count made load refused : ℕ) (s : State) : Type 0 where
  pub progress : Progress
  pub serves : Serves progress made s
  pub rest : after_all progress (load_commands (count - made) load) ≡ after_all at_first (load_commands count seed)
  pub counted : refused ≡ progress.refused
  pub upto : made ≤ count

pub begins : (seed count load : ℕ) (s : State) → load ≡ seed → Serves at_first 0 s → ServesTo seed count 0 load 0 s
begins seed count load s same serves = record {
  progress = at_first;
  serves = serves;
  rest = ap (λ k. after_all at_first (load_commands k load)) (all count) ∙ ap (λ x. after_all at_first (load_commands count x)) same;
  counted = refl;
  upto = omega arith;
}
  where
    all : (n : ℕ) → n - 0 ≡ n
    all n = omega arith

pub one_more : CostsAsAlone → (seed count made load refused behind n : ℕ) (cmd : Cmd) (reply : Reply) (old new : State) → made < count → count ≤ 2000 → ServesTo seed count made load refused old
    → cmd ≡ next_command load → behind ≡ state_behind load → IsAnswered cmd reply old new → has_run_out reply ≡ false → n ≡ (if is_refusal reply then 1 else 0) → ServesTo seed count (made + 1) behind (refused + n) new
one_more unshared seed count made load refused behind n cmd reply old new low most to is state answered calm counts =
    let law : IsLoadCommand cmd = subst IsLoadCommand (sym is) (next_is_load load) in
    let few : made < 2000 = omega (arith, low, most) in
    let left : count - made ≡ suc (count - (made + 1)) = omega (arith, low) in
    record {
      progress = after to.progress cmd;
      serves = serves_on to.progress made cmd reply old new unshared law few to.serves answered calm;
      rest = ap (λ x. after_all (after to.progress cmd) (load_commands (count - (made + 1)) x)) state
          ∙ ap (λ c. after_all (after to.progress c) (load_commands (count - (made + 1)) (state_behind load))) is
          ∙ ap (λ k. after_all to.progress (load_commands k load)) (sym left)
          ∙ to.rest;
      counted = omega (arith, to.counted, counts, refused_on to.progress made cmd reply old new unshared law few to.serves answered calm);
      upto = omega (arith, low);
    }

pub ends : (seed count made load refused : ℕ) (s : State) → count ≤ made → ServesTo seed count made load refused s
    → Serves (after_all at_first (load_commands count seed)) count s × (refused ≡ (after_all at_first (load_commands count seed)).refused)
ends seed count made load refused s over to =
    let all : made ≡ count = omega (arith, over, to.upto) in
    let none : count - made ≡ 0 = omega (arith, over) in
    let came : to.progress ≡ after_all at_first (load_commands count seed) = ap (λ k. after_all to.progress (load_commands k load)) (sym none) ∙ to.rest in (
      subst (λ (p : Progress). Serves p count s) came (subst (λ k. Serves to.progress k s) all to.serves),
      to.counted ∙ ap (λ (p : Progress). p.refused) came,
    )

-- the count of refusals has 32 bits
pub small : (seed count made load refused n : ℕ) (b : Bool) (s : State) → count ≤ 2000 → ServesTo seed count made load refused s → n ≡ (if b then 1 else 0) → refused + n < 2 ^ 32
small seed count made load refused n b s most to counts = omega (arith, most, to.counted, to.serves.refused, to.upto, counts, (elim b as (λ b. (if b then 1 else 0) ≤ 1) [ true ↦ omega arith | false ↦ omega arith ]))

totals_are : {count n m k l : ℕ} {d e : List ℕ} → n ≡ m → k ≡ l → d ≡ e → ◌≡◌ {A = Totals} (record { commands = count; refused = n; points = k; digest = d }) (record { commands = count; refused = m; points = l; digest = e })
totals_are one two three = cc

-- the numbers at the end are those of the summary
pub sums_up : (seed count refused points : ℕ) (digest : List ℕ) (s : State) → Serves (after_all at_first (load_commands count seed)) count s → refused ≡ (after_all at_first (load_commands count seed)).refused → points ≡ s.books.point
    → ((f : Session) → IsSession s f → digest ≡ sha256 (listing f.tree)) → record { commands = count; refused = refused; points = points; digest = digest } ≡ summary_of seed count
sums_up seed count refused points digest s serves counted last listed =
    let p = after_all at_first (load_commands count seed) in
    let numbered : points ≡ p.session.points = last ∙ sym (serves.session.points serves.going) in
    totals_are counted numbered (listed p.session serves.session)
