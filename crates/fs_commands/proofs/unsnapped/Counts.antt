-- What counts tell without a snapshot that goes: kept are those blocks that another one keeps, and freed those that nothing else has.
use Rattle.std.proofs.Common.{◌≡◌, ◌≢◌, ◌⊎◌, inl, inr, ℕ, ◌+◌, ◌<◌, ◌≤◌, ◌==◌, ◌||◌, ◌&&◌, not, Bool, true, false, if◌then◌else◌, List, get_or, sym, ap, subst, ◌∙◌, arith}
use Rattle.std.proofs.lemmas.Bool.{and_parts, and_from, cases_Bool, or_cases, or_left, or_right, true≢false, not-true, not_from_false}
use Rattle.std.proofs.lemmas.Bool.Decides.{nat_tests}
use Rattle.std.proofs.lemmas.List.Kept.{AllPairs-filter}
use Rattle.std.proofs.lemmas.Option.{slice_get-get_or}
use Rattle.base_types.specs.Seal.{Blocks}
use Rattle.layout_geometry.specs.Geometry.{Geometry}
use Rattle.crash_stands.specs.Stands.{HasBlock}
use Rattle.engine_blocks.specs.Running.{has}
use Rattle.fs_files.specs.Places.{has_place}
use Rattle.fs_files.specs.Shared.{is_kept, keepers}
use Rattle.fs_files.specs.Sound.{AreApartFrom, AreSoundBeside}
use Rattle.fs_session.specs.Snapshots.{alone_among, live_files}
use Rattle.fs_commands.specs.Known.{CountsOut}
use Rattle.fs_commands.proofs.unsnapped.Keepers.{bit}
use Rattle.fs_commands.proofs.unsnapped.Once.{IsOnce, filter_in, has_live, in_filter, live_has}

-- a kept block has a count
pub some_keeper : (counts : List ℕ) (b : ℕ) → is_kept counts b ≡ true → 0 < keepers counts b
some_keeper counts b is = grind (arith, nat_tests)

pub keeper_some : (counts : List ℕ) (b : ℕ) → 0 < keepers counts b → is_kept counts b ≡ true
keeper_some counts b some = grind (arith, nat_tests)

no_keeper : (counts : List ℕ) (b : ℕ) → keepers counts b ≡ 0 → is_kept counts b ≡ false
no_keeper counts b none = grind (arith, nat_tests)

one_is : (n : ℕ) → (n == 1) ≡ true → n ≡ 1
one_is n e = grind (arith, nat_tests)

is_one : (n : ℕ) → n ≡ 1 → (n == 1) ≡ true
is_one n e = grind (arith, nat_tests)

bit_on : (t : Bool) → t ≡ true → bit t ≡ 1
bit_on t e = ap bit e

bit_off : (t : Bool) → t ≡ false → bit t ≡ 0
bit_off t e = ap bit e

-- A block that nothing else has: one snapshot keeps it, and no file of the tree.
pub record IsAlone (counts files kept : List ℕ) (b : ℕ) : Type 0 where
  pub one : keepers counts b ≡ 1
  pub bare : has files b ≡ false
  pub mine : has kept b ≡ true

module _ (counts files kept alone : List ℕ) (is : alone ≡ alone_among counts files kept) where
  pub alone_is : (b : ℕ) → has alone b ≡ true → IsAlone counts files kept b
  alone_is b h =
      let r = in_filter (λ b. (keepers counts b == 1) && not (has files b)) kept b (ap (λ xs. has xs b) (sym is) ∙ h) in
      let p = and_parts (keepers counts b == 1) (not (has files b)) r.1 in
      record { one = one_is (keepers counts b) p.0; bare = not-true (has files b) p.1; mine = r.0 }

  pub is_alone : (b : ℕ) → keepers counts b ≡ 1 → has files b ≡ false → has kept b ≡ true → has alone b ≡ true
  is_alone b one bare mine = ap (λ xs. has xs b) is
      ∙ filter_in (λ b. (keepers counts b == 1) && not (has files b)) kept b mine (and_from (keepers counts b == 1) (not (has files b)) (is_one (keepers counts b) one) (not_from_false (has files b) bare))

  module _ (rest : List ℕ) (out : CountsOut kept counts rest) where
    -- it has no count without the snapshot that goes
    pub alone_unkept : (b : ℕ) → has alone b ≡ true → is_kept rest b ≡ false
    alone_unkept b h = let a = alone_is b h in no_keeper rest b (omega (arith, out.each b, a.one, bit_on (has kept b) a.mine))

    -- what another snapshot keeps, or nothing else has, was kept
    pub kept_before : (b : ℕ) → (is_kept rest b || has alone b) ≡ true → is_kept counts b ≡ true
    kept_before b e = by (or_cases (is_kept rest b) (has alone b) e)
      where
        by : (is_kept rest b ≡ true) ⊎ (has alone b ≡ true) → is_kept counts b ≡ true
        by (inl still) = keeper_some counts b (omega (arith, out.each b, some_keeper rest b still))
        by (inr gone) = keeper_some counts b (omega (arith, (alone_is b gone).one))

    -- what was kept is so still, or nothing else has it, or a file of the tree has it
    pub kept_after : (b : ℕ) → is_kept counts b ≡ true → ((is_kept rest b || has alone b) ≡ true) ⊎ (has files b ≡ true)
    kept_after b was = by (cases_Bool (is_kept rest b)) (cases_Bool (has files b))
      where
        none : is_kept rest b ≡ false → keepers rest b ≡ 0
        none e = grind (arith, nat_tests)

        mine : is_kept rest b ≡ false → has kept b ≡ true
        mine e = there (cases_Bool (has kept b))
          where
            there : (has kept b ≡ true) ⊎ (has kept b ≡ false) → has kept b ≡ true
            there (inl h) = h
            there (inr h) = absurd (omega (arith, out.each b, some_keeper counts b was, none e, bit_off (has kept b) h))

        by : (is_kept rest b ≡ true) ⊎ (is_kept rest b ≡ false) → (has files b ≡ true) ⊎ (has files b ≡ false) → ((is_kept rest b || has alone b) ≡ true) ⊎ (has files b ≡ true)
        by (inl still) there = inl (or_left (is_kept rest b) (has alone b) still)
        by (inr gone) (inl there) = inr there
        by (inr gone) (inr bare) = inl (or_right (is_kept rest b) (has alone b) (is_alone b (omega (arith, out.each b, none gone, bit_on (has kept b) (mine gone))) bare (mine gone)))

-- Blocks are sound beside fewer, where what isn't kept any more is a node's.
thinner : (g : Geometry) (m : Blocks) (kept thin : ℕ → Bool) → AreSoundBeside g kept m → ((b : ℕ) → thin b ≡ true → kept b ≡ true) → ((b : ℕ) → kept b ≡ true → (thin b ≡ true) ⊎ ((k : ℕ) × (i : ℕ) × HasBlock g m k i b)) → AreSoundBeside g thin m
thinner g m kept thin beside less more = record {
  whole = beside.whole;
  own = beside.own;
  fixed = beside.fixed;
  marked = λ b from below. ((λ set. now b ((beside.marked b from below).0 set)), (λ h. (beside.marked b from below).1 (before b h)));
  inside = λ b is. beside.inside b (less b is);
  shared = λ b k i node is h used. beside.shared b k i node (less b is) h used;
  past = beside.past;
  free = beside.free;
  tail = beside.tail;
}
  where
    swap : (b : ℕ) → (thin b ≡ true) ⊎ ((k : ℕ) × (i : ℕ) × HasBlock g m k i b) → ((k : ℕ) × (i : ℕ) × HasBlock g m k i b) ⊎ (thin b ≡ true)
    swap b (inl is) = inr is
    swap b (inr h) = inl h

    now : (b : ℕ) → ((k : ℕ) × (i : ℕ) × HasBlock g m k i b) ⊎ (kept b ≡ true) → ((k : ℕ) × (i : ℕ) × HasBlock g m k i b) ⊎ (thin b ≡ true)
    now b (inl h) = inl h
    now b (inr is) = swap b (more b is)

    before : (b : ℕ) → ((k : ℕ) × (i : ℕ) × HasBlock g m k i b) ⊎ (thin b ≡ true) → ((k : ℕ) × (i : ℕ) × HasBlock g m k i b) ⊎ (kept b ≡ true)
    before b (inl h) = inl h
    before b (inr is) = inr (less b is)

module _ (g : Geometry) (m : Blocks) (counts rest kept alone : List ℕ) (beside : AreSoundBeside g (is_kept counts) m) (is : alone ≡ alone_among counts (live_files g m) kept) (out : CountsOut kept counts rest) where
  -- so it is without the snapshot that goes, beside what is freed
  pub sound_without : AreSoundBeside g (λ b. is_kept rest b || has alone b) m
  sound_without = thinner g m (is_kept counts) (λ b. is_kept rest b || has alone b) beside (kept_before counts (live_files g m) kept alone is rest out)
      (λ b was. by b (kept_after counts (live_files g m) kept alone is rest out b was))
    where
      by : (b : ℕ) → ((is_kept rest b || has alone b) ≡ true) ⊎ (has (live_files g m) b ≡ true) → ((is_kept rest b || has alone b) ≡ true) ⊎ ((k : ℕ) × (i : ℕ) × HasBlock g m k i b)
      by b (inl still) = inl still
      by b (inr live) = let h = has_live g m b live in inr (h.0, h.1, h.2)

  -- no node has what is freed
  pub alone_bare : (k i b : ℕ) → has alone b ≡ true → HasBlock g m k i b → ⊥
  alone_bare k i b gone h =
      let a = alone_is counts (live_files g m) kept alone is b gone in
      let file = beside.shared b k i h.node (keeper_some counts b (omega (arith, a.one))) h h.is_node in
      true≢false (sym (live_has g m k i b h file) ∙ a.bare)

  pub alone_apart : IsOnce kept → AreApartFrom g m rest alone
  alone_apart once = record {
    once = subst IsOnce (sym is) (AllPairs-filter (λ a b. a ≢ b) (λ b. (keepers counts b == 1) && not (has (live_files g m) b)) kept once);
    unkept = λ i d low. alone_unkept counts (live_files g m) kept alone is rest out (get_or alone i d) (has_place alone i (get_or alone i d) (slice_get-get_or alone i d low));
    bare = alone_bare;
  }
