-- Which blocks a write changes, and how many it takes.
use Rattle.std.proofs.Common.{◌≡◌, ◌≢◌, ◌⊎◌, inl, inr, ℕ, zero, suc, ◌/◌, ◌<◌, ◌≤◌, ◌==◌, ◌&&◌, ◌||◌, not, if◌then◌else◌, nat_le, Bool, true, false, List, [], ◌∷◌, ◌++◌, take, drop, max, Option, Some, is_some, refl, sym, ap, subst, ◌∙◌, arith, ⊎_elim}
use Rattle.std.proofs.lemmas.Bool.{and_parts, cases_Bool, cases_lt, eq-eqb, eqb-true, false≢true, lt-leb, or_left, or_right, or_cases}
use Rattle.std.proofs.lemmas.Bool.Decides.{nat_tests}
use Rattle.base_types.specs.declared.words.Class.TheVariants.{Meta}
use Rattle.base_types.specs.Layouts.{node_byte}
use Rattle.layout_bytes.specs.Node.{node_spelling}
use Rattle.layout_geometry.specs.Geometry.{Geometry}
use Rattle.layout_bytes.specs.declared.node.NodeKind.{NodeKind}
use Rattle.layout_bytes.specs.declared.node.NodeKind.TheVariants.{Free}
use Rattle.engine_blocks.specs.Running.{has}
use Rattle.fs_files.specs.declared.changes.Changed.{Changed}
use Rattle.fs_files.specs.declared.nodes.OpenNode.{OpenNode}
use Rattle.fs_files.specs.Bytes.{blocks_for, met, overwrite}
use Rattle.fs_files.specs.Calls.{is_dir}
use Rattle.fs_files.specs.Drafts.{DraftState, change_of, is_meta, zeros_of, TakesBlocks}
use Rattle.fs_files.specs.Nodes.{class_of, node_block}
use Rattle.fs_files.specs.Content.{WritesContent}
use Rattle.fs_files.specs.Growing.{alone, taken_by}
use Rattle.fs_files.specs.Writing.{KeepsSize, with_size}
use Rattle.fs_files.proofs.drafts.Lists.{in_front, in_rest, has_alone, has_append}

-- Blocks that bytes meet.

-- of more bytes
wider : (a s c t : ℕ) (xs : List ℕ) (b : ℕ) → s ≤ a → c ≤ t → has (drop a (take c xs)) b ≡ true → has (drop s (take t xs)) b ≡ true
wider a s zero t xs b low high e = absurd (false≢true (in_rest a [] b e))
wider a s (suc c) t [] b low high e = absurd (false≢true (in_rest a [] b e))
wider a s (suc c) zero (x ∷ xs) b low high e = absurd (omega (arith, high))
wider zero s (suc c) (suc t) (x ∷ xs) b low high e =
    subst (λ n. has (drop n (x ∷ take t xs)) b ≡ true) {x = 0} {y = s} (omega (arith, low)) (by (wider zero zero c t xs b (omega arith) (omega (arith, high))) (or_cases (b == x) (has (take c xs) b) e))
  where
    by : (has (take c xs) b ≡ true → has (take t xs) b ≡ true) → ((b == x) ≡ true) ⊎ (has (take c xs) b ≡ true) → ((b == x) || has (take t xs) b) ≡ true
    by further (inl same) = or_left (b == x) (has (take t xs) b) same
    by further (inr rest) = or_right (b == x) (has (take t xs) b) (further rest)
wider (suc a) zero (suc c) (suc t) (x ∷ xs) b low high e = or_right (b == x) (has (take t xs) b) (wider a zero c t xs b (omega arith) (omega (arith, high)) e)
wider (suc a) (suc s) (suc c) (suc t) (x ∷ xs) b low high e = wider a s c t xs b (omega (arith, low)) (omega (arith, high)) e

pub met_wider : (lo less hi more : ℕ) (xs : List ℕ) (b : ℕ) → less ≤ lo → hi ≤ more → has (met lo hi xs) b ≡ true → has (met less more xs) b ≡ true
met_wider lo less hi more xs b low high e = wider (lo / 1024) (less / 1024) (blocks_for hi) (blocks_for more) xs b (omega (arith, low)) (omega (arith, high)) e

-- of blocks with others behind them
drop_front : (a c : ℕ) (xs ys : List ℕ) (b : ℕ) → has (drop a (take c (xs ++ ys))) b ≡ true → has ys b ≡ false → has (drop a (take c xs)) b ≡ true
drop_front a c [] ys b e out = absurd (false≢true (sym out ∙ in_front c ys b (in_rest a (take c ys) b e)))
drop_front a zero (x ∷ xs) ys b e out = e
drop_front zero (suc c) (x ∷ xs) ys b e out = by (drop_front zero c xs ys b) (or_cases (b == x) (has (take c (xs ++ ys)) b) e)
  where
    by : (has (take c (xs ++ ys)) b ≡ true → has ys b ≡ false → has (take c xs) b ≡ true) → ((b == x) ≡ true) ⊎ (has (take c (xs ++ ys)) b ≡ true) → ((b == x) || has (take c xs) b) ≡ true
    by further (inl same) = or_left (b == x) (has (take c xs) b) same
    by further (inr rest) = or_right (b == x) (has (take c xs) b) (further rest out)
drop_front (suc a) (suc c) (x ∷ xs) ys b e out = drop_front a c xs ys b e out

pub met_front : (lo hi : ℕ) (xs ys : List ℕ) (b : ℕ) → has (met lo hi (xs ++ ys)) b ≡ true → has ys b ≡ false → has (met lo hi xs) b ≡ true
met_front lo hi xs ys b e out = drop_front (lo / 1024) (blocks_for hi) xs ys b e out

-- one of two, where a test says which
if_cases : {A : Type 0} (t : Bool) (x y : Option A) → is_some (if t then x else y) ≡ true → ((t ≡ true) × (is_some x ≡ true)) ⊎ (is_some y ≡ true)
if_cases t x y e = grind (arith, nat_tests)

-- a kind of node in use has new content where it isn't a directory
kind_class : (kind : NodeKind) → kind ≢ Free → ((is_dir kind ≡ true) × (is_meta (class_of kind) ≡ true)) ⊎ (is_meta (class_of kind) ≡ false)
kind_class kind e = grind (arith, nat_tests)

pub fresh_of : (kind : NodeKind) (n : ℕ) → (if is_meta (class_of kind) then 0 else n) ≤ (if is_dir kind then 0 else n)
fresh_of kind n = grind (arith, nat_tests)

-- the blocks that a write may change
abbrev pub may_change : Geometry → (ℕ → Bool) → ℕ → NodeKind → List ℕ → List ℕ → ℕ → ℕ → ℕ → ℕ → List ℕ
may_change g kept number kind ps more size at lo hi = alone kept (met at hi ps) ++ ((if is_dir kind then more else []) ++ (if nat_le hi size && (taken_by kept lo hi ps == 0) then [] else node_block g number ∷ []))

-- d, then base with new blocks, then f with bytes in blocks that these meet, then e with the node, where it grew or got blocks.
module _ (g : Geometry) (kept : ℕ → Bool) (number at lo hi : ℕ) (o p : OpenNode) (extra more : List ℕ) (d base f e : DraftState) (table : List ℕ)
    (keeps : KeepsSize g number hi (taken_by kept lo hi o.places) p table f e) (size : p.size ≡ o.size) (used : o.kind ≢ Free)
    (writes : WritesContent (class_of o.kind) (met at hi p.places) base f) (takes : TakesBlocks (class_of o.kind) extra d base)
    (stays : (b : ℕ) → has (met at hi p.places) b ≡ true → has extra b ≡ false → (has (met at hi o.places) b ≡ true) × (kept b ≡ false))
    (behind : is_dir o.kind ≡ true → (b : ℕ) → has extra b ≡ true → has more b ≡ true) where
  abbrev mine : List ℕ
  mine = may_change g kept number o.kind o.places more o.size at lo hi

  abbrev dirs : List ℕ
  dirs = if is_dir o.kind then more else []

  abbrev last : List ℕ
  last = if nat_le hi o.size && (taken_by kept lo hi o.places == 0) then [] else node_block g number ∷ []

  in_mine : (b : ℕ) → (has (alone kept (met at hi o.places)) b ≡ true) ⊎ ((has dirs b ≡ true) ⊎ (has last b ≡ true)) → has mine b ≡ true
  in_mine b is = grind (arith, nat_tests, has_append)

  abbrev Known : ℕ → Type 0
  Known b = (has mine b || is_some (change_of d.changed b)) ≡ true

  known : (b : ℕ) → has mine b ≡ true → Known b
  known b is = or_left (has mine b) (is_some (change_of d.changed b)) is

  in_dirs : (b : ℕ) → is_dir o.kind ≡ true → has extra b ≡ true → Known b
  in_dirs b dir is = known b (in_mine b (inr (inl (ap (λ t. has (if t then more else []) b) dir ∙ behind dir b is))))

  -- after blocks were taken
  base_known : (b : ℕ) → is_some (change_of base.changed b) ≡ true → Known b
  base_known b is = ⊎_elim (λ new. in_dirs b (dir_of new.0) (and_parts (is_meta (class_of o.kind)) (has extra b) new.0).1)
      (λ was. or_right (has mine b) (is_some (change_of d.changed b)) was)
      (if_cases (is_meta (class_of o.kind) && has extra b) (Some (zeros_of (class_of o.kind))) (change_of d.changed b) (sym (ap is_some (takes.changed b)) ∙ is))
    where
      dir_of : (is_meta (class_of o.kind) && has extra b) ≡ true → is_dir o.kind ≡ true
      dir_of t = ⊎_elim (λ dir. dir.0)
          (λ file. absurd (false≢true (sym file ∙ (and_parts (is_meta (class_of o.kind)) (has extra b) t).0)))
          (kind_class o.kind used)

  -- after bytes were written
  wrote_known : (b : ℕ) → is_some (change_of f.changed b) ≡ true → Known b
  wrote_known b is = by (cases_Bool (is_some (change_of base.fresh b)))
    where
      came : is_some (change_of base.fresh b) ≡ false → has extra b ≡ true → Known b
      came old here = ⊎_elim (λ dir. in_dirs b dir.0 here)
          (λ file. absurd (false≢true (sym old ∙ ap is_some (takes.fresh b ∙ (λ i. if not (file i) && here i then Some (zeros_of (class_of o.kind)) else change_of d.fresh b)))))
          (kind_class o.kind used)

      stayed : has (met at hi p.places) b ≡ true → has extra b ≡ false → Known b
      stayed here out = let s = stays b here out in known b (in_mine b (inl (has_alone kept (met at hi o.places) b ∙ (λ i. s.0 i && not (s.1 i)))))

      by : (is_some (change_of base.fresh b) ≡ true) ⊎ (is_some (change_of base.fresh b) ≡ false) → Known b
      by (inl fresh) = base_known b (sym (ap is_some (writes.apart b fresh)) ∙ is)
      by (inr old) = ⊎_elim (λ within. ⊎_elim (λ here. came old here) (λ out. stayed within out) (cases_Bool (has extra b)))
          (λ was. base_known b was)
          (or_cases (has (met at hi p.places) b) (is_some (change_of base.changed b)) (writes.keys b is))

  abbrev put : Changed
  put = record { class = Meta; bytes = overwrite (node_byte g.layout number) (node_spelling g.layout (with_size g.layout p (max p.size hi))) table }

  own_known : (b : ℕ) → (p.size < hi) ⊎ (0 < taken_by kept lo hi o.places) → (node_block g number == b) ≡ true → Known b
  own_known b stored is = known b (in_mine b (inr (inr (ap (λ t. has (if t then [] else node_block g number ∷ []) b) not_same ∙ or_left (b == node_block g number) false (eq-eqb b (node_block g number) (sym (eqb-true (node_block g number) b is)))))))
    where
      not_same : (nat_le hi o.size && (taken_by kept lo hi o.places == 0)) ≡ false
      not_same = ⊎_elim (λ grew. ap (λ t. t && (taken_by kept lo hi o.places == 0)) (lt-leb hi o.size (omega (arith, grew, size))))
          (λ got. ap (λ t. nat_le hi o.size && t) (none_zero (taken_by kept lo hi o.places) got) ∙ and_none (nat_le hi o.size))
          stored
        where
          none_zero : (n : ℕ) → 0 < n → (n == 0) ≡ false
          none_zero n more = grind (arith, nat_tests)

          and_none : (t : Bool) → (t && false) ≡ false
          and_none true = refl
          and_none false = refl

  put_known : (b : ℕ) → (p.size < hi) ⊎ (0 < taken_by kept lo hi o.places) → is_some (change_of e.changed b) ≡ true → Known b
  put_known b stored is = by (is_some (change_of f.fresh (node_block g number))) (sym (ap is_some ((keeps.puts stored).changed b)) ∙ is)
    where
      by : (t : Bool) → is_some (if t then change_of f.changed b else if node_block g number == b then Some put else change_of f.changed b) ≡ true → Known b
      by true e = wrote_known b e
      by false e = ⊎_elim (λ here. own_known b stored here.0)
          (λ was. wrote_known b was)
          (if_cases (node_block g number == b) (Some put) (change_of f.changed b) e)

  -- after the node was stored
  pub kept_known : (b : ℕ) → is_some (change_of e.changed b) ≡ true → Known b
  kept_known b is = ⊎_elim (λ grew. put_known b (inl grew) is)
      (λ low. ⊎_elim (λ got. put_known b (inr got) is)
      (λ none. wrote_known b (ap (λ (x : DraftState). is_some (change_of x.changed b)) (sym (keeps.same low (omega (arith, none)))) ∙ is))
      (cases_lt 0 (taken_by kept lo hi o.places)))
      (cases_lt p.size hi)
