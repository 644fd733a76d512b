-- What is known of snapshots while one is made: nothing else than before until it is carried out, and then it is known too.
use Rattle.std.proofs.Common.{◌≡◌, ◌≢◌, ◌⊎◌, inl, inr, ℕ, ◌<◌, Bool, false, IsTrue, List, [], length, All, AllPairs, Option, sym, ap, subst, ◌∙◌, arith}
use Rattle.std.proofs.lemmas.Bool.{true≢false}
use Rattle.std.specs.Ordering.{eq_by_cmp}
use Rattle.base_types.specs.Seal.{Blocks}
use Rattle.layout_geometry.specs.Geometry.{Geometry}
use Rattle.engine_blocks.specs.Puts.{IsData}
use Rattle.engine_blocks.specs.State.{State}
use Rattle.fs_files.specs.Shared.{is_kept, keepers}
use Rattle.fs_files.specs.Sound.{TellsKept}
use Rattle.fs_snapshots.specs.Known.{CountsKeepers}
use Rattle.fs_session.specs.Sessions.{MayPlan}
use Rattle.fs_commands.specs.Known.{CountsIn}
use Rattle.fs_commands.proofs.numbered.Keys.{name_cmp, tied, which_key}

-- Counts for which room was made.
module _ (g : Geometry) (m : Blocks) (counts ready : List ℕ) (blocks : ℕ) (is : blocks ≡ g.n) (known : CountsKeepers g m counts) (same : (b : ℕ) → keepers ready b ≡ keepers counts b) (room : (ready ≡ counts) ⊎ (length ready ≡ blocks)) where
  -- say what was said
  pub ready_counts : CountsKeepers g m ready
  ready_counts = record { each = λ b. same b ∙ known.each b; room = by room known.room }
    where
      by : (ready ≡ counts) ⊎ (length ready ≡ blocks) → (counts ≡ []) ⊎ (length counts ≡ g.n) → (ready ≡ []) ⊎ (length ready ≡ g.n)
      by (inl it) (inl none) = inl (it ∙ none)
      by (inl it) (inr long) = inr (ap length it ∙ long)
      by (inr long) before = inr (long ∙ is)

  -- and have a number for each block
  pub ready_long : (counts ≡ [] → length ready ≡ blocks) → length ready ≡ g.n
  ready_long made = by room known.room
    where
      by : (ready ≡ counts) ⊎ (length ready ≡ blocks) → (counts ≡ []) ⊎ (length counts ≡ g.n) → length ready ≡ g.n
      by (inl it) (inl none) = made none ∙ is
      by (inl it) (inr long) = ap length it ∙ long
      by (inr long) before = long ∙ is

-- With them a command may be planned.
pub plans_ready : (tells : Bool) (s : State) (counts ready : List ℕ) → (IsTrue tells → TellsKept s.books.geom (is_kept ready) s.map) → MayPlan tells s counts → MayPlan tells s ready
plans_ready tells s counts ready kept may = record {
  begin = record { going = may.begin.going; none_bare = may.begin.none_bare; sound = may.begin.sound; kept = kept };
  stands = may.stands;
  turns = may.turns;
}

-- each block of a list is counted once more, where the list is that of the tree's files
pub counted_in : (g : Geometry) (ready more list live : List ℕ) → list ≡ live → length ready ≡ g.n → All (IsData g) live → All (λ b. keepers ready b < 65535) live → AllPairs (λ a b. a ≢ b) live
    → (All (λ b. b < length ready) list → All (λ b. keepers ready b < 65535) list → AllPairs (λ a b. a ≢ b) list → CountsIn list ready more) → CountsIn live ready more
counted_in g ready more list live is long «data» few once law =
    subst (λ xs. CountsIn xs ready more) is (law (subst (All (λ b. b < length ready)) (sym is) (λ i d low. omega (arith, («data» i d low).below, long)))
    (subst (All (λ b. keepers ready b < 65535)) (sym is) few) (subst (AllPairs (λ a b. a ≢ b)) (sym is) once))

-- The name that comes, or that is forgotten: all others have what they had.
pub name_by : (name : List ℕ) (numbers before after now : List ℕ → Option ℕ) → ((other : List ℕ) → numbers other ≡ before other) → after name ≡ now name → ((other : List ℕ) → other ≢ name → after other ≡ numbers other)
    → ((other : List ℕ) → other ≢ name → now other ≡ before other) → (other : List ℕ) → after other ≡ now other
name_by name numbers before after now known here others stays other = by (which_key other name)
  where
    by : (other ≡ name) ⊎ (eq_by_cmp name_cmp other name ≡ false) → after other ≡ now other
    by (inl same) = ap after same ∙ here ∙ sym (ap now same)
    by (inr off) = let differs : other ≢ name = λ same. true≢false (sym (tied other name same) ∙ off) in others other differs ∙ known other ∙ sym (stays other differs)
