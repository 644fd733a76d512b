-- The nodes after a name came, went or moved: what that is of their inode map.
use Rattle.std.proofs.Common.{◌≡◌, ◌≢◌, ℕ, List, Option, Some, option_map, option_and_then, refl, sym, ap, subst, ◌∙◌, ◌⊎◌, inl, inr, arith}
use Rattle.std.proofs.lemmas.Bool.{cases_eq}
use Rattle.std.specs.Cmp.{nat_cmp_total}
use Rattle.std.specs.FinMap.{nat_cmp-IsAntisymmetric, get, insert, remove}
use Rattle.std.proofs.lemmas.Bool.Decides.{nat_tests}
use Rattle.std.proofs.lemmas.Grind.{common_steps}
use Rattle.layout_bytes.specs.declared.slot.Slot.{Slot}
use Rattle.crash_stands.specs.Inodes.{ADir, AreDistinct}
use Rattle.crash_stands.specs.Walks.{entries_of, entry_in}
use Rattle.fs_inodes.specs.Changes.{one_link_less, AddsName, TakesName, MovesName}
use Rattle.fs_memtree.specs.Kept.{DirNames, Kept, KeptDir, KeptNodes, map_of, inode_of, slots_for, changed_at, without_link, with_name, without_name, with_number}
use Rattle.fs_memtree.specs.Changes.{put_over, put_and_take}
use Rattle.fs_memtree.proofs.keys.Keys.{name_total, name_same, put_here, put_other, gone_here, gone_other, there_renumbered}
use Rattle.fs_memtree.proofs.maps.Slots.{under_name, slots_distinct}
use Rattle.fs_memtree.proofs.serving.Changed.{mapped, changed_here, changed_other, less_here, less_other, has_put, has_taken}

module _ (nodes : KeptNodes) (d n : ℕ) (names : DirNames) (name : List ℕ) (dir : get nodes d ≡ Some (KeptDir names)) (apart : n ≢ d) where
  -- the directory with the name
  named : get (changed_at nodes d (with_name name n)) d ≡ Some (KeptDir (insert names name n))
  named = changed_here nodes d (with_name name n) (KeptDir names) dir

  -- a new node under a new name
  pub adds_node : (x : Kept) → AddsName (map_of nodes) (map_of (insert (changed_at nodes d (with_name name n)) n x)) d n name (inode_of x)
  adds_node x = record {
    under = has_put (map_of nodes) _ d names name (mapped nodes d (KeptDir names) dir) n (mapped _ d (KeptDir (insert names name n)) (put_other nat_cmp_total nat_cmp-IsAntisymmetric _ n x d (λ e. apart (sym e)) ∙ named));
    named = mapped _ n x (put_here nat_cmp_total nat_cmp-IsAntisymmetric _ n x n refl);
    others = λ k off_d off_n. ap (option_map inode_of) (put_other nat_cmp_total nat_cmp-IsAntisymmetric _ n x k off_n ∙ changed_other nodes d (with_name name n) k off_d);
  }

  -- a new name of a node that changes too
  pub adds_path : (change : Kept → Kept) (x : Kept) → get nodes n ≡ Some x → AddsName (map_of nodes) (map_of (changed_at (changed_at nodes d (with_name name n)) n change)) d n name (inode_of (change x))
  adds_path change x is = grind (arith, nat_tests, has_put, mapped, changed_other, named, changed_here)

  -- a name that goes, with a link of its node
  pub takes_path : get names name ≡ Some n → TakesName (map_of nodes) (map_of (changed_at (without_link nodes n) d (without_name name))) d n name
  takes_path there =
      let still : get (without_link nodes n) d ≡ Some (KeptDir names) = less_other nodes n d (λ e. apart (sym e)) ∙ dir in
      record {
        under = has_taken (map_of nodes) _ d names name (mapped nodes d (KeptDir names) dir) (mapped _ d (KeptDir (remove names name)) (changed_here (without_link nodes n) d (without_name name) (KeptDir names) still));
        there = under_name names name ∙ there;
        left = ap (option_map inode_of) (changed_other (without_link nodes n) d (without_name name) n apart) ∙ less_here nodes n;
        others = λ k off_d off_n. ap (option_map inode_of) (changed_other (without_link nodes n) d (without_name name) k off_d ∙ less_other nodes n k off_n);
      }

-- A name that moves.
module _ (nodes : KeptNodes) (d c n : ℕ) (source target : DirNames) (name other : List ℕ) (from : get nodes d ≡ Some (KeptDir source)) (into : get nodes c ≡ Some (KeptDir target))
    (there : get source name ≡ Some n) (differ : get target other ≢ Some n)
    (apart : (old : ℕ) → get target other ≡ Some old → (old ≢ d) × (old ≢ c)) where
  -- the nodes once the second name leads to the node
  put : KeptNodes
  put = put_over nodes c other n (get target other)

  -- the names of the second directory then
  target_put : get put c ≡ Some (KeptDir (insert target other n))
  unfolding put
  target_put = grind (arith, common_steps, changed_here, less_other, there_renumbered)

  -- other nodes but the one that loses the name stay
  put_stays : (k : ℕ) → k ≢ c → get target other ≢ Some k → get put k ≡ get nodes k
  unfolding put
  put_stays k off far = grind (arith, nat_tests, changed_other, less_other)

  -- and that one has a link less
  put_left : (old : ℕ) → get target other ≡ Some old → map_of put old ≡ option_and_then one_link_less (map_of nodes old)
  unfolding put
  put_left old is = ap (λ o. map_of (put_over nodes c other n o) old) is ∙ ap (option_map inode_of) (changed_other (without_link nodes old) c (with_number other n) old (apart old is).1) ∙ less_here nodes old

  -- the names of the first directory then
  record Source : Type 0 where
    names : DirNames
    is : get put d ≡ Some (KeptDir names)
    same : (b : List ℕ) → ((d ≡ c) × (b ≡ other) → ⊥) → get names b ≡ get source b
    moved : d ≡ c → get names other ≡ Some n

  same_names : d ≡ c → target ≡ source
  same_names e = grind (arith, nat_tests)

  first : Source
  first = by (cases_eq d c)
    where
      by : (d ≡ c) ⊎ (d ≡ c → ⊥) → Source
      by (inl e) = record {
        names = insert target other n;
        is = ap (get put) e ∙ target_put;
        same = λ b off. put_other name_total name_same target other n b (λ f. off (e, f)) ∙ ap (λ names. get names b) (same_names e);
        moved = λ e. put_here name_total name_same target other n other refl;
      }
      by (inr off) = record {
        names = source;
        is = put_stays d off (λ e. (apart d e).0 refl) ∙ from;
        same = λ b out. refl;
        moved = λ e. absurd (off e);
      }

  -- the nodes after the move
  after : KeptNodes
  after = changed_at put d (without_name name)

  after_is : after ≡ put_and_take nodes (d, name) (c, other) n (get target other)
  unfolding put after
  after_is = refl

  source_after : get after d ≡ Some (KeptDir (remove first.names name))
  unfolding after
  source_after = changed_here put d (without_name name) (KeptDir first.names) first.is

  after_stays : (k : ℕ) → k ≢ d → get after k ≡ get put k
  unfolding after
  after_stays k off = changed_other put d (without_name name) k off

  -- the two names differ where the directory is one
  two_names : d ≡ c → other ≡ name → ⊥
  two_names e same = differ (ap (get target) same ∙ ap (λ names. get names name) (same_names e) ∙ there)

  target_after : (d ≡ c) ⊎ (d ≡ c → ⊥) → (names : DirNames) × (get after c ≡ Some (KeptDir names)) × (get names other ≡ Some n) × ((b : List ℕ) → (b ≡ other → ⊥) → ((c ≡ d) × (b ≡ name) → ⊥) → get names b ≡ get target b)
  target_after (inl e) = (
    remove first.names name,
    ap (get after) (sym e) ∙ source_after,
    gone_other name_total name_same first.names name other (two_names e) ∙ first.moved e,
    λ b off out. gone_other name_total name_same first.names name b (λ f. out (sym e, f)) ∙ first.same b (λ both. off both.1) ∙ ap (λ names. get names b) (sym (same_names e)),
  )
  target_after (inr off) = (
    insert target other n,
    after_stays c (λ e. off (sym e)) ∙ target_put,
    put_here name_total name_same target other n other refl,
    λ b out skip. put_other name_total name_same target other n b out,
  )

  entry_at : (k : ℕ) (names : DirNames) (b : List ℕ) → get after k ≡ Some (KeptDir names) → entries_of (map_of after) k b ≡ get names b
  entry_at k names b is = ap (λ o. entry_in (option_map inode_of o) b) is ∙ under_name names b

  entry_before : (k : ℕ) (names : DirNames) (b : List ℕ) → get nodes k ≡ Some (KeptDir names) → entries_of (map_of nodes) k b ≡ get names b
  entry_before k names b is = ap (λ o. entry_in (option_map inode_of o) b) is ∙ under_name names b

  -- no other entry of the two directories changed
  entries_stay : (k : ℕ) (b : List ℕ) → (k ≡ d) ⊎ (k ≡ c) → ((k ≡ d) × (b ≡ name) → ⊥) → ((k ≡ c) × (b ≡ other) → ⊥) → entries_of (map_of after) k b ≡ entries_of (map_of nodes) k b
  entries_stay k b side off_name off_other = by (cases_eq k d) side
    where
      by : (k ≡ d) ⊎ (k ≡ d → ⊥) → (k ≡ d) ⊎ (k ≡ c) → entries_of (map_of after) k b ≡ entries_of (map_of nodes) k b
      by (inl e) two = ap (λ k. entries_of (map_of after) k b) e ∙ entry_at d (remove first.names name) b source_after
          ∙ gone_other name_total name_same first.names name b (λ f. off_name (e, f)) ∙ first.same b (λ both. off_other (e ∙ both.0, both.1))
          ∙ sym (ap (λ k. entries_of (map_of nodes) k b) e ∙ entry_before d source b from)
      by (inr off) (inl e) = absurd (off e)
      by (inr off) (inr e) =
          let t = target_after (cases_eq d c) in
          ap (λ k. entries_of (map_of after) k b) e ∙ entry_at c t.0 b t.1 ∙ t.3 b (λ f. off_other (e, f)) (λ both. off (e ∙ both.0))
          ∙ sym (ap (λ k. entries_of (map_of nodes) k b) e ∙ entry_before c target b into)

  -- no name comes twice
  one_each : (o : Option Kept) (slots : List Slot) → option_map inode_of o ≡ Some (ADir slots) → AreDistinct slots
  one_each o slots e = grind (arith, common_steps, slots_distinct)

  moves_of_after : MovesName (map_of nodes) (map_of after) d c n name other
  moves_of_after =
      let t = target_after (cases_eq d c) in
      record {
        slots = slots_for source;
        from_dir = mapped nodes d (KeptDir source) from;
        there = under_name source name ∙ there;
        target = slots_for target;
        into_dir = mapped nodes c (KeptDir target) into;
        differ = λ e. differ (sym (under_name target other) ∙ e);
        from_stays = (_, mapped after d (KeptDir (remove first.names name)) source_after);
        into_stays = (_, mapped after c (KeptDir t.0) t.1);
        gone = entry_at d (remove first.names name) name source_after ∙ gone_here name_total name_same first.names name name refl;
        come = entry_at c t.0 other t.1 ∙ t.2;
        same = entries_stay;
        distinct = λ k slots side is. one_each (get after k) slots is;
        left = λ old e. ap (option_map inode_of) (after_stays old (apart old (sym (under_name target other) ∙ e)).0) ∙ put_left old (sym (under_name target other) ∙ e);
        others = λ k off_d off_c far. ap (option_map inode_of) (after_stays k off_d ∙ put_stays k off_c (λ e. far (under_name target other ∙ e)));
      }

  -- the move
  pub moves_path : MovesName (map_of nodes) (map_of (put_and_take nodes (d, name) (c, other) n (get target other))) d c n name other
  moves_path = subst (λ x. MovesName (map_of nodes) (map_of x) d c n name other) after_is moves_of_after
