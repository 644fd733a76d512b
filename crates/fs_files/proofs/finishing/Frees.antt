-- Frees, one by one.
use Rattle.std.proofs.Common.{◌≡◌, ◌≢◌, ℕ, ◌+◌, ◌-◌, ◌<◌, ◌≤◌, ◌==◌, Bool, true, false, cond, IsTrue, List, [], ◌∷◌, ◌++◌, length, take, drop, get_or, AllPairs, sym, ap, subst, ◌∙◌, arith, ◌⊎◌, inl, inr}
use Rattle.std.proofs.lemmas.Bool.{cases_eq, eq-eqb, ne_eqb}
use Rattle.std.proofs.lemmas.List.{drop_more, take_more}
use Rattle.std.proofs.lemmas.Bool.Decides.{nat_tests}
use Rattle.base_types.specs.Seal.{Blocks}
use Rattle.layout_geometry.specs.Geometry.{Geometry, table_start}
use Rattle.layout_bytes.specs.Bitmap.{is_set}
use Rattle.engine_blocks.specs.Running.{has}
use Rattle.engine_blocks.specs.State.{State, after_free}
use Rattle.engine_blocks.specs.Calls.{IsWithFreed}
use Rattle.engine_blocks.specs.Effects.{LeavesDisk}
use Rattle.engine_blocks.specs.Puts.{after_frees}
use Rattle.fs_files.specs.Making.{AreFreed}
use Rattle.fs_files.proofs.finishing.Basics.{not_before, leaves_on}
use Rattle.fs_files.proofs.drafts.Lists.{has_push, merged}

-- after the first i of a list: what is still to come makes the whole
pub record AreFreedUpTo (tells : Bool) (start now : State) (list : List ℕ) (i : ℕ) : Type 0 where
  pub books : after_frees now.books (drop i list) ≡ after_frees start.books list
  pub geom : now.books.geom ≡ start.books.geom
  pub room : now.books.spare.frees ≡ start.books.spare.frees - i
  pub map : IsTrue tells → AreFreed start.books.geom start.map now.map (take i list)
  pub disk : LeavesDisk tells start now

-- the next one's bit is set
pub still_set : (tells : Bool) (start now : State) (list : List ℕ) (i b : ℕ) → AreFreedUpTo tells start now list i → i < length list → b ≡ get_or list i 0 → b < start.books.geom.n → AllPairs (λ a b. a ≢ b) list → IsTrue tells
    → is_set start.books.geom start.map b ≡ true → is_set now.books.geom now.map b ≡ true
still_set tells start now list i b h low is below once t set = grind (arith, nat_tests, not_before)

freed_more : (g : Geometry) (start mid new : Blocks) (xs : List ℕ) (b : ℕ) → AreFreed g start mid xs → IsWithFreed g mid new b → b < g.n → AreFreed g start new (xs ++ b ∷ [])
freed_more g start mid new xs b h w low = record {
  lies = λ c from. one c from (cases_eq c b) ∙ ap (λ x. cond (c == b) [] x) (h.lies c from) ∙ merged (has xs c) (c == b) [] (start c) ∙ sym (ap (λ t. cond t [] (start c)) (has_push xs b c));
  bits = λ c l. w.bits c l ∙ ap (λ x. cond (c == b) false x) (h.bits c l) ∙ merged (has xs c) (c == b) false (is_set g start c) ∙ sym (ap (λ t. cond t false (is_set g start c)) (has_push xs b c));
}
  where
    one : (c : ℕ) → table_start g ≤ c → (c ≡ b) ⊎ (c ≢ b) → new c ≡ cond (c == b) [] (mid c)
    one c from (inl e) = ap new e ∙ w.own ∙ sym (ap (λ t. cond t [] (mid c)) (eq-eqb c b e))
    one c from (inr d) = w.others c d (λ e. omega (arith, e, from, low)) ∙ sym (ap (λ t. cond t [] (mid c)) (ne_eqb c b d))

pub one_freed : (tells : Bool) (start mid new : State) (list : List ℕ) (i b : ℕ) → AreFreedUpTo tells start mid list i → i < length list → b ≡ get_or list i 0 → b < start.books.geom.n
    → new.books ≡ after_free mid.books b → (IsTrue tells → IsWithFreed mid.books.geom mid.map new.map b) → LeavesDisk tells mid new → AreFreedUpTo tells start new list (i + 1)
one_freed tells start mid new list i b h low is below books map disk = record {
  books = ap (λ k. after_frees k (drop (i + 1) list)) (books ∙ ap (after_free mid.books) is) ∙ ap (after_frees mid.books) (sym (drop_more list i 0 low)) ∙ h.books;
  geom = ap (λ k. k.geom) books ∙ h.geom;
  room = omega (arith, ap (λ k. k.spare.frees) books, h.room);
  map = λ t. subst (AreFreed start.books.geom start.map new.map) (ap (λ c. take i list ++ c ∷ []) is ∙ sym (take_more list i 0 low)) (freed_more start.books.geom start.map mid.map new.map (take i list) b (h.map t) (subst (λ g. IsWithFreed g mid.map new.map b) h.geom (map t)) below);
  disk = leaves_on tells start mid new h.disk disk;
}
