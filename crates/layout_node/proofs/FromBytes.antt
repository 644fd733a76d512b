-- What reads as a node in use is spelled in those bytes.
use Rattle.std.proofs.Common.{◌≡◌, ℕ, suc, ◌+◌, ◌-◌, ◌*◌, ◌≤◌, ◌==◌, ◌&&◌, Bool, true, false, if◌then◌else◌, List, [], ◌∷◌, ◌++◌, length, take, drop, replicate, slice_index, Option, Some, None, Result, Ok, Err, IfOk, OnErr, refl, sym, subst, ap, ap₂, ◌∙◌, arith, drop-drop, length-drop, eqb-true, take_all}
use Rattle.std.specs.Option.{ok_or}
use Rattle.std.proofs.lemmas.Bool.{and_parts, leb-true}
use Rattle.std.proofs.lemmas.Option.{same_Some}
use Rattle.byteorder.specs.Endian.{little_number, little_bytes}
use Rattle.byteorder.specs.Numbers.{little_from-lt}
use Rattle.base_types.specs.declared.layout.Layout.{Layout}
use Rattle.base_types.specs.LayoutLaws.{node_size_is}
use Rattle.layout_geometry.specs.Geometry.{Geometry}
use Rattle.layout_bytes.specs.declared.node.Node.{Node}
use Rattle.layout_bytes.specs.declared.node.NodeKind.{NodeKind}
use Rattle.layout_bytes.specs.declared.node.NodeKind.TheVariants.{Free, Dir, File, Snapshot}
use Rattle.layout_node.specs.declared.read.BadNode.{BadNode}
use Rattle.layout_bytes.specs.Bytes.{field, are_zeros, has_zeros, ZerosAreTold, FirstZerosAreTold, NumbersAreTold}
use Rattle.layout_bytes.specs.Node.{used_kind, runs_in, node_fits, spare_zeros, node_fields, node_with, node_of, kind_byte, most_runs, run_bytes, node_size, node_spelling, free_node, FitsAs, HasRoom, IsNode}
use Rattle.layout_node.proofs.Fields.{when_parts, AreBytes, bytes_drop, so_many_zeros}
use Rattle.layout_node.proofs.Runs.{runs_again, runs_length, runs_room}
use Rattle.layout_node.proofs.Spelled.{node_reads, free_zeros, zeros_free}

same_ok : {A E : Type 0} {x y : A} → ◌≡◌ {A = Result A E} (Ok x) (Ok y) → x ≡ y
same_ok e = cc

-- five parts one behind the other
five_parts : (b b6 b14 b30 runs count links size zeros run_part end : List ℕ) → b ≡ count ++ b6 → b6 ≡ links ++ b14 → b14 ≡ size ++ b30 → b30 ≡ zeros ++ runs → runs ≡ run_part ++ end
    → b ≡ count ++ (links ++ (size ++ (zeros ++ (run_part ++ end))))
five_parts b b6 b14 b30 runs count links size zeros run_part end e f g h i =
    e ∙ ap (λ xs. count ++ xs) (f ∙ ap (λ xs. links ++ xs) (g ∙ ap (λ xs. size ++ xs) (h ∙ ap (λ xs. zeros ++ xs) i)))

-- what reads as no node in use reads as none
pub unread : (g : Geometry) (b : List ℕ) → ((n : Node) → node_of g b ≡ Some n → ⊥) → node_of g b ≡ None
unread g b isnt = by (node_of g b) refl
  where
    by : (o : Option Node) → node_of g b ≡ o → node_of g b ≡ None
    by None e = e
    by (Some n) e = absurd (isnt n e)

-- what is read from a field tells its bytes, as the law of fields says
module _ (zeros_are : ZerosAreTold) (first_zeros_are : FirstZerosAreTold) (numbers_are : NumbersAreTold) where
  -- bytes that are zeros to their end
  zeros_end : (n : ℕ) (xs : List ℕ) → length xs ≡ n → are_zeros (take n xs) ≡ true → xs ≡ replicate n 0
  zeros_end n xs len e =
      let all : take n xs ≡ xs = take_all n xs (omega (arith, len)) in
      zeros_are xs (ap are_zeros (sym all) ∙ e) ∙ ap (λ k. replicate k 0) len

  -- the bytes behind the kind and the zero, where what carries nothing is zeros
  behind_kind : (l : Layout) (b : List ℕ) (c : ℕ) → length b ≡ node_size l - 2 → AreBytes b → c ≡ little_number 2 b → c ≤ most_runs l → are_zeros (take 16 (drop 14 b)) ≡ true
      → are_zeros (take (node_size l - 32 - 8 * c) (drop (30 + 8 * c) b)) ≡ true
      → b ≡ little_bytes 2 c ++ (little_bytes 4 (little_number 4 (drop 2 b)) ++ (little_bytes 8 (little_number 8 (drop 6 b))
      ++ (replicate 16 0 ++ (run_bytes (runs_in c (drop 30 b)) ++ replicate (node_size l - 32 - 8 * c) 0))))
  behind_kind l b c len low count few spare spare_end =
      five_parts b (drop 2 b) (drop 6 b) (drop 14 b) (drop 30 b) (little_bytes 2 c) (little_bytes 4 (little_number 4 (drop 2 b))) (little_bytes 8 (little_number 8 (drop 6 b)))
      (replicate 16 0) (run_bytes (runs_in c (drop 30 b))) (replicate (node_size l - 32 - 8 * c) 0)
      (numbers_are 2 b (omega (arith, node_size_is l, len)) low ∙ ap (λ n. little_bytes 2 n ++ drop 2 b) (sym count))
      (numbers_are 4 (drop 2 b) (omega (arith, node_size_is l, len, length-drop 2 b)) (bytes_drop 2 b low) ∙ ap (λ xs. little_bytes 4 (little_number 4 (drop 2 b)) ++ xs) (drop-drop 4 2 b))
      (numbers_are 8 (drop 6 b) (omega (arith, node_size_is l, len, length-drop 6 b)) (bytes_drop 6 b low) ∙ ap (λ xs. little_bytes 8 (little_number 8 (drop 6 b)) ++ xs) (drop-drop 8 6 b))
      (first_zeros_are 16 (drop 14 b) (omega (arith, node_size_is l, len, length-drop 14 b)) spare ∙ ap (λ xs. replicate 16 0 ++ xs) (drop-drop 16 14 b))
      (runs_again numbers_are c (drop 30 b) (omega (arith, node_size_is l, len, few, length-drop 30 b)) (bytes_drop 30 b low)
      ∙ ap (λ xs. run_bytes (runs_in c (drop 30 b)) ++ xs) (drop-drop (8 * c) 30 b ∙ zeros_end (node_size l - 32 - 8 * c) (drop (30 + 8 * c) b) (omega (arith, node_size_is l, len, few, length-drop (30 + 8 * c) b)) spare_end))

  -- all bytes, with the runs' own number
  spelled : (g : Geometry) (b : List ℕ) (kind : NodeKind) → length b ≡ node_size g.layout → AreBytes b → slice_index b 0 ≡ kind_byte kind → spare_zeros g.layout b ≡ true
      → length (runs_in (field b 2 2) (drop 32 b)) ≤ most_runs g.layout → b ≡ node_spelling g.layout (node_fields kind b)
  spelled g [] kind len low first spare few = absurd (omega (arith, len, node_size_is g.layout))
  spelled g (x ∷ []) kind len low first spare few = absurd (omega (arith, len, node_size_is g.layout))
  spelled g (x ∷ y ∷ b) kind len low first spare few =
      let c = little_number 2 b in
      let own : length (runs_in c (drop 30 b)) ≡ c = runs_length c (drop 30 b) in
      let second = and_parts (y == 0) (has_zeros (x ∷ y ∷ b) 16 32 && has_zeros (x ∷ y ∷ b) (32 + 8 * c) (node_size g.layout)) spare in
      let zeros = and_parts (has_zeros (x ∷ y ∷ b) 16 32) (has_zeros (x ∷ y ∷ b) (32 + 8 * c) (node_size g.layout)) second.1 in
      let end : are_zeros (take (node_size g.layout - 32 - 8 * c) (drop (30 + 8 * c) b)) ≡ true = shorter c x y b zeros.1 in
      ap₂ (λ k z. k ∷ z ∷ b) first (eqb-true y 0 second.0)
      ∙ ap (λ (rest : List ℕ). kind_byte kind ∷ 0 ∷ rest)
      (behind_kind g.layout b c (omega (arith, len)) (λ i. low (suc (suc i))) refl (omega (arith, few, own)) zeros.0 end
      ∙ ap (λ n. little_bytes 2 n ++ (little_bytes 4 (little_number 4 (drop 2 b)) ++ (little_bytes 8 (little_number 8 (drop 6 b)) ++ (replicate 16 0 ++ (run_bytes (runs_in c (drop 30 b)) ++ replicate (node_size g.layout - 32 - 8 * n) 0))))) (sym own))
    where
      shorter : (c x y : ℕ) (b : List ℕ) → has_zeros (x ∷ y ∷ b) (32 + 8 * c) (node_size g.layout) ≡ true → are_zeros (take (node_size g.layout - 32 - 8 * c) (drop (30 + 8 * c) b)) ≡ true
      shorter c x y b e =
          ap (λ n. are_zeros (take n (drop (30 + 8 * c) b))) {x = node_size g.layout - 32 - 8 * c} {y = node_size g.layout - (32 + 8 * c)} (omega arith)
          ∙ ap (λ n. are_zeros (take (node_size g.layout - (32 + 8 * c)) (drop n (x ∷ y ∷ b)))) {x = suc (suc (30 + 8 * c))} {y = 32 + 8 * c} (omega arith)
          ∙ e

  -- the numbers of what is read have room
  fields_room : (kind : NodeKind) (b : List ℕ) → AreBytes b → HasRoom (node_fields kind b)
  fields_room kind b low = record {
    links = little_from-lt 0 4 (drop 4 b) (bytes_drop 4 b low);
    size = little_from-lt 0 8 (drop 8 b) (bytes_drop 8 b low);
    runs = runs_room (field b 2 2) (drop 32 b) (bytes_drop 32 b low);
  }

  -- the kind that a byte tells is spelled by that byte, and isn't free
  kind_spelled : (n : ℕ) (kind : NodeKind) → used_kind n ≡ Some kind → (n ≡ kind_byte kind) × (kind ≡ Free → ⊥)
  kind_spelled n kind e = by (n == 1) (n == 2) (n == 3) refl refl refl e
    where
      by : (a b c : Bool) → (n == 1) ≡ a → (n == 2) ≡ b → (n == 3) ≡ c → (if a then Some Dir else if b then Some File else if c then Some Snapshot else None) ≡ Some kind
          → (n ≡ kind_byte kind) × (kind ≡ Free → ⊥)
      by true b c p q r e = (eqb-true n 1 p ∙ ap kind_byte (same_Some _ _ e), λ free. is_free (same_Some _ _ e ∙ free))
        where
          is_free : Dir ≡ Free → ⊥
          is_free f = cc
      by false true c p q r e = (eqb-true n 2 q ∙ ap kind_byte (same_Some _ _ e), λ free. is_free (same_Some _ _ e ∙ free))
        where
          is_free : File ≡ Free → ⊥
          is_free f = cc
      by false false true p q r e = (eqb-true n 3 r ∙ ap kind_byte (same_Some _ _ e), λ free. is_free (same_Some _ _ e ∙ free))
        where
          is_free : Snapshot ≡ Free → ⊥
          is_free f = cc
      by false false false p q r e = cc

  fits_as : (g : Geometry) (n : Node) (kind : NodeKind) → (kind ≡ Free → ⊥) → node_fits g n ≡ true → FitsAs g n kind
  fits_as g n Free used fits = absurd (used refl)
  fits_as g n Dir used fits = fits
  fits_as g n File used fits = fits
  fits_as g n Snapshot used fits = fits

  by_kind : (g : Geometry) (b : List ℕ) (n : Node) (kind : Option NodeKind) → length b ≡ node_size g.layout → AreBytes b → used_kind (slice_index b 0) ≡ kind → node_with g b kind ≡ Some n
      → IsNode g b n × (n.kind ≡ Free → ⊥)
  by_kind g b n None len low k e = cc
  by_kind g b n (Some kind) len low k e =
      let read = when_parts (spare_zeros g.layout b) _ n e in
      let used = when_parts (node_fits g (node_fields kind b)) _ n read.1 in
      let same = same_Some _ _ used.1 in
      let told = kind_spelled (slice_index b 0) kind k in
      let few : length (runs_in (field b 2 2) (drop 32 b)) ≤ most_runs g.layout = leb-true _ (most_runs g.layout) (and_parts _ _ (and_parts _ _ used.0).1).0 in
      let whole : IsNode g b (node_fields kind b) = record {
        room = fields_room kind b low;
        fits = fits_as g (node_fields kind b) kind told.1 used.0;
        spelling = spelled g b kind len low told.0 read.0 few;
      } in
      subst (λ (m : Node). IsNode g b m × (m.kind ≡ Free → ⊥)) same (whole, told.1)

  -- what reads as a node in use is its spelling
  pub node_spelled : (g : Geometry) (b : List ℕ) (n : Node) → length b ≡ node_size g.layout → AreBytes b → node_of g b ≡ Some n → IsNode g b n × (n.kind ≡ Free → ⊥)
  unfolding node_of
  node_spelled g b n len low e = by_kind g b n (used_kind (slice_index b 0)) len low refl e

  -- whole zeros are the free node
  pub zeros_read : (g : Geometry) (b : List ℕ) (n : Node) → length b ≡ node_size g.layout → are_zeros b ≡ true → n ≡ free_node → IsNode g b n
  zeros_read g b n len zeros free =
      subst (λ (m : Node). IsNode g b m) (sym free)
      (subst (λ xs. IsNode g xs free_node) (sym (zeros_are b zeros ∙ ap (λ k. replicate k 0) len)) (zeros_free g))

  -- what the two readings find, and that they refuse nothing else
  pub found : (g : Geometry) (b : List ℕ) (o : Option Node) (r : Result Node BadNode) → r ≡ ok_or o (record {}) → o ≡ node_of g b → length b ≡ node_size g.layout → AreBytes b → IfOk r (λ n. IsNode g b n)
  found g b (Some n) (Ok m) told is len low = subst (λ (k : Node). IsNode g b k) (sym (same_ok told)) (node_spelled g b n len low (sym is)).0
  found g b None (Ok m) told is len low = cc
  found g b o (Err e) told is len low = tt

pub refused : (g : Geometry) (b : List ℕ) (o : Option Node) (r : Result Node BadNode) → r ≡ ok_or o (record {}) → o ≡ node_of g b → are_zeros b ≡ false → OnErr r ((n : Node) → IsNode g b n → ⊥)
refused g b o (Ok m) told is other = tt
refused g b None (Err e) told is other = λ n stands. by n stands n.kind refl
  where
    by : (n : Node) → IsNode g b n → (kind : NodeKind) → n.kind ≡ kind → ⊥
    by n stands Free k = zeros (ap are_zeros (free_zeros g b n stands k) ∙ so_many_zeros (node_size g.layout))
      where
        zeros : are_zeros b ≡ true → ⊥
        zeros e = cc
    by n stands Dir k = none (node_reads g b n stands (λ free. dir (sym k ∙ free)))
      where
        dir : Dir ≡ Free → ⊥
        dir e = cc

        none : node_of g b ≡ Some n → ⊥
        none e = cc
    by n stands File k = none (node_reads g b n stands (λ free. file (sym k ∙ free)))
      where
        file : File ≡ Free → ⊥
        file e = cc

        none : node_of g b ≡ Some n → ⊥
        none e = cc
    by n stands Snapshot k = none (node_reads g b n stands (λ free. snapshot (sym k ∙ free)))
      where
        snapshot : Snapshot ≡ Free → ⊥
        snapshot e = cc

        none : node_of g b ≡ Some n → ⊥
        none e = cc
refused g b (Some n) (Err e) told is other = cc
