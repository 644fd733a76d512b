-- What calls alter of a draft, one behind the other.
use Rattle.std.proofs.Common.{◌≡◌, ◌⊎◌, inl, inr, ℕ, ◌+◌, ◌*◌, ◌≤◌, ◌==◌, min, Bool, true, false, ◌||◌, List, [], ◌∷◌, ◌++◌, length, is_some, refl, sym, ap, ◌∙◌, arith, append_assoc, append-nil}
use Rattle.std.proofs.lemmas.Bool.{or_cases, or_left, or_right}
use Rattle.std.proofs.lemmas.List.{length-append}
use Rattle.engine_blocks.specs.Running.{has}
use Rattle.layout_geometry.specs.Geometry.{Geometry, bitmap_blocks}
use Rattle.fs_files.specs.Calls.{SetsNode}
use Rattle.fs_files.specs.Drafts.{DraftState, ChangesSome, change_of, nothing_drafted}
use Rattle.fs_files.specs.Finish.{ChangesOnly, price}
use Rattle.fs_files.specs.Nodes.{node_block}
use Rattle.fs_dirs.specs.Changing.{Alters, ChangesAtMost}

-- what is in either of two lists is in both together

pub in_first : (xs ys : List ℕ) (b : ℕ) → has xs b ≡ true → has (xs ++ ys) b ≡ true
in_first [] ys b e = absurd cc
in_first (x ∷ xs) ys b e = by (in_first xs ys b) (or_cases (b == x) (has xs b) e)
  where
    by : (has xs b ≡ true → has (xs ++ ys) b ≡ true) → ((b == x) ≡ true) ⊎ (has xs b ≡ true) → ((b == x) || has (xs ++ ys) b) ≡ true
    by rest (inl here) = or_left (b == x) (has (xs ++ ys) b) here
    by rest (inr there) = or_right (b == x) (has (xs ++ ys) b) (rest there)

pub in_second : (xs ys : List ℕ) (b : ℕ) → has ys b ≡ true → has (xs ++ ys) b ≡ true
in_second [] ys b e = e
in_second (x ∷ xs) ys b e = or_right (b == x) (has (xs ++ ys) b) (in_second xs ys b e)

-- a few blocks, and then a few more
few_more : (a b : ℕ) (c d e : DraftState) → ChangesAtMost a c d → ChangesAtMost b d e → ChangesAtMost (a + b) c e
few_more a b c d e p q = (p.0 ++ q.0, omega (arith, length-append p.0 q.0, p.1, q.1), each)
  where
    each : (n : ℕ) → is_some (change_of e.changed n) ≡ true → (has (p.0 ++ q.0) n || is_some (change_of c.changed n)) ≡ true
    each n is = by (or_cases (has q.0 n) (is_some (change_of d.changed n)) (q.2 n is))
      where
        before : (has p.0 n ≡ true) ⊎ (is_some (change_of c.changed n) ≡ true) → (has (p.0 ++ q.0) n || is_some (change_of c.changed n)) ≡ true
        before (inl mine) = or_left (has (p.0 ++ q.0) n) (is_some (change_of c.changed n)) (in_first p.0 q.0 n mine)
        before (inr old) = or_right (has (p.0 ++ q.0) n) (is_some (change_of c.changed n)) old

        by : (has q.0 n ≡ true) ⊎ (is_some (change_of d.changed n) ≡ true) → (has (p.0 ++ q.0) n || is_some (change_of c.changed n)) ≡ true
        by (inl mine) = or_left (has (p.0 ++ q.0) n) (is_some (change_of c.changed n)) (in_second p.0 q.0 n mine)
        by (inr old) = before (or_cases (has p.0 n) (is_some (change_of c.changed n)) (p.2 n old))

-- what two calls alter adds up
pub alters_both : (a b freed gone : ℕ) (taken more : List ℕ) (c d e : DraftState) → Alters a taken freed c d → Alters b more gone d e → Alters (a + b) (taken ++ more) (freed + gone) c e
alters_both a b freed gone taken more c d e p q = record {
  among = few_more a b c d e p.among q.among;
  some = q.some;
  taken = q.taken ∙ ap (λ ts. ts ++ more) p.taken ∙ append_assoc c.taken taken more;
  freed = omega (arith, p.freed, q.freed);
  fresh = omega (arith, p.fresh, q.fresh);
}

-- a node that changed is one block
pub alters_node : (g : Geometry) (number : ℕ) (gone : List ℕ) (d e : DraftState) → SetsNode g number gone d e → ChangesSome e → Alters 1 [] (length gone) d e
alters_node g number gone d e sets some = record {
  among = (node_block g number ∷ [], omega arith, sets.among);
  some = some;
  taken = sets.taken ∙ sym (append-nil d.taken);
  freed = ap length sets.freed ∙ length-append d.freed gone;
  fresh = sets.fresh;
}

-- what is altered of an empty draft bounds its price
pub altered_price : (g : Geometry) (most frees : ℕ) (takes : List ℕ) (e : DraftState) → Alters most takes frees nothing_drafted e
    → (bs : List ℕ) × ChangesOnly bs e × (price g bs e ≤ 25 * (most + (min (length takes) (bitmap_blocks g) + min frees (bitmap_blocks g))))
altered_price g most frees takes e alters = (
  alters.among.0,
  λ b is. only (has alters.among.0 b) (alters.among.2 b is),
  omega (arith, alters.among.1, alters.fresh, ap length alters.taken, alters.freed),
)
  where
    only : (t : Bool) → (t || false) ≡ true → t ≡ true
    only true h = refl
    only false h = h
