-- Puts of new bytes, one by one.
use Rattle.std.proofs.Common.{◌≡◌, ℕ, suc, ◌+◌, ◌<◌, ◌≤◌, ◌==◌, Bool, true, cond, IsTrue, List, ◌∷◌, length, All, Some, None, sym, ap, subst, ◌∙◌, arith}
use Rattle.std.proofs.lemmas.Bool.{ne_eqb}
use Rattle.std.proofs.lemmas.Bool.Decides.{nat_tests}
use Rattle.layout_geometry.specs.Geometry.{data_start, table_start}
use Rattle.base_types.specs.Seal.{Blocks}
use Rattle.layout_bytes.specs.Bitmap.{is_set}
use Rattle.engine_blocks.specs.State.{State, after_put}
use Rattle.engine_blocks.specs.Calls.{IsWithBlock}
use Rattle.engine_blocks.specs.Effects.{LeavesDisk}
use Rattle.fs_files.specs.declared.changes.Changed.{Changed}
use Rattle.fs_files.specs.Drafts.{change_of, bytes_or}
use Rattle.fs_files.specs.Making.{put_class, after_changes, IsTableOrData}
use Rattle.fs_files.proofs.finishing.Basics.{bits_alike, leaves_on}

-- while some of them were put: what is still to come makes the whole
pub record ArePutUpTo (tells fresh : Bool) (start now : State) (all rest : List (ℕ × Changed)) (i : ℕ) : Type 0 where
  pub books : after_changes now.books fresh rest ≡ after_changes start.books fresh all
  pub geom : now.books.geom ≡ start.books.geom
  pub room : length rest ≤ now.books.spare.puts
  pub count : length rest + i ≡ length all
  pub within : All (λ (e : ℕ × Changed). IsTableOrData start.books.geom e.0) rest
  pub marked : IsTrue tells → All (λ (e : ℕ × Changed). data_start start.books.geom ≤ e.0 → is_set start.books.geom start.map e.0 ≡ true) rest
  pub map : IsTrue tells → (b : ℕ) → bytes_or (now.map b) (change_of rest b) ≡ bytes_or (start.map b) (change_of all b)
  pub before : IsTrue tells → (b : ℕ) → b < table_start start.books.geom → now.map b ≡ start.map b
  pub disk : LeavesDisk tells start now

-- the next one may be put
pub record MayPut (tells : Bool) (now : State) (b : ℕ) : Type 0 where
  pub room : 0 < now.books.spare.puts
  pub from : table_start now.books.geom ≤ b
  pub below : b < now.books.geom.n
  pub marked : IsTrue tells → data_start now.books.geom ≤ b → is_set now.books.geom now.map b ≡ true

head_all : {X : Type 0} (P : X → Type 0) (p : X) (xs : List X) → All P (p ∷ xs) → P p
head_all P p xs all = all 0 p (omega arith)

tail_all : {X : Type 0} (P : X → Type 0) (p : X) (xs : List X) → All P (p ∷ xs) → All P xs
tail_all P p xs all k d low = all (suc k) d (omega (arith, low))

pub may_put : (tells fresh : Bool) (start now : State) (all rest more : List (ℕ × Changed)) (i : ℕ) (p : ℕ × Changed) → ArePutUpTo tells fresh start now all rest i → rest ≡ p ∷ more → MayPut tells now p.0
may_put tells fresh start now all rest more i p h first = record {
  room = omega (arith, h.room, ap length first);
  from = subst (λ g. table_start g ≤ p.0) (sym h.geom) one.from;
  below = subst (λ g. p.0 < g.n) (sym h.geom) one.below;
  marked = λ t from.
      ap (λ g. is_set g now.map p.0) h.geom
      ∙ bits_alike start.books.geom start.map now.map (h.before t) p.0 (omega (arith, one.below))
      ∙ head_all (λ (e : ℕ × Changed). data_start start.books.geom ≤ e.0 → is_set start.books.geom start.map e.0 ≡ true) p more (subst (All (λ (e : ℕ × Changed). data_start start.books.geom ≤ e.0 → is_set start.books.geom start.map e.0 ≡ true)) first (h.marked t)) (subst (λ g. data_start g ≤ p.0) h.geom from);
}
  where
    one : IsTableOrData start.books.geom p.0
    one = head_all (λ (e : ℕ × Changed). IsTableOrData start.books.geom e.0) p more (subst (All (λ (e : ℕ × Changed). IsTableOrData start.books.geom e.0)) first h.within)

-- one of them is put
lies : (old new : Blocks) (rest more : List (ℕ × Changed)) (p : ℕ × Changed) → IsWithBlock old new p.0 p.1.bytes → change_of rest p.0 ≡ Some p.1 → ((q : ℕ) → change_of more q ≡ cond (p.0 == q) None (change_of rest q))
    → (b : ℕ) → bytes_or (new b) (change_of more b) ≡ bytes_or (old b) (change_of rest b)
lies old new rest more p w found others b = grind (arith, nat_tests, ne_eqb)

pub one_put : (tells fresh : Bool) (start mid new : State) (all rest more : List (ℕ × Changed)) (i : ℕ) (p : ℕ × Changed) → ArePutUpTo tells fresh start mid all rest i → rest ≡ p ∷ more → change_of rest p.0 ≡ Some p.1 → ((q : ℕ) → change_of more q ≡ cond (p.0 == q) None (change_of rest q))
    → new.books ≡ after_put mid.books p.0 (put_class fresh p.1.class) → (IsTrue tells → IsWithBlock mid.map new.map p.0 p.1.bytes) → LeavesDisk tells mid new → ArePutUpTo tells fresh start new all more (i + 1)
one_put tells fresh start mid new all rest more i p h first found others books map disk = record {
  books = ap (λ k. after_changes k fresh more) books ∙ sym (ap (after_changes mid.books fresh) first) ∙ h.books;
  geom = ap (λ k. k.geom) books ∙ h.geom;
  room = omega (arith, ap (λ k. k.spare.puts) books, h.room, ap length first);
  count = omega (arith, h.count, ap length first);
  within = tail_all (λ (e : ℕ × Changed). IsTableOrData start.books.geom e.0) p more (subst (All (λ (e : ℕ × Changed). IsTableOrData start.books.geom e.0)) first h.within);
  marked = λ t. tail_all (λ (e : ℕ × Changed). data_start start.books.geom ≤ e.0 → is_set start.books.geom start.map e.0 ≡ true) p more (subst (All (λ (e : ℕ × Changed). data_start start.books.geom ≤ e.0 → is_set start.books.geom start.map e.0 ≡ true)) first (h.marked t));
  map = λ t b. lies mid.map new.map rest more p (map t) found others b ∙ h.map t b;
  before = λ t b low. (map t).others b (λ e. omega (arith, e, low, one.from)) ∙ h.before t b low;
  disk = leaves_on tells start mid new h.disk disk;
}
  where
    one : IsTableOrData start.books.geom p.0
    one = head_all (λ (e : ℕ × Changed). IsTableOrData start.books.geom e.0) p more (subst (All (λ (e : ℕ × Changed). IsTableOrData start.books.geom e.0)) first h.within)
