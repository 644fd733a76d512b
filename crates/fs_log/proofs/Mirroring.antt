-- What is kept in memory of a log, as its blocks change.
use Rattle.std.proofs.Common.{◌≡◌, ℕ, List, [], ◌∷◌, length, map, Result, Ok, Err, sym, ap, ap₂, ◌∙◌, arith}
use Rattle.std.specs.Prelude.{OnErr, OnOk}
use Rattle.lang_tree.specs.Tree.{Tree}
use Rattle.lang_log.specs.Segments.{Segment}
use Rattle.lang_log.specs.Log.{Log, IsLogOf, IsMadeOf, next_of}
use Rattle.lang_log.specs.History.{History}
use Rattle.engine_blocks.specs.State.{State}
use Rattle.fs_log.specs.Keeping.{HoldsLog, Keeps}
use Rattle.fs_log.specs.Open.{Mirrors, Open, first_or}
use Rattle.fs_log.proofs.Holding.{same_log}

-- blocks that hold the log that they held have the same in memory
pub mirrors_over : (old new : State) (firsts : List ℕ) (size next : ℕ) → ((segments : List Segment) (l : Log) → HoldsLog segments l old → HoldsLog segments l new) → Mirrors old firsts size next → Mirrors new firsts size next
mirrors_over old new firsts size next over m = record {
  segments = m.segments;
  log = m.log;
  holds = over m.segments m.log m.holds;
  firsts_are = m.firsts_are;
  size_is = m.size_is;
  next_is = m.next_is;
}

-- what is so holds where a call was done
pub on_ok : {T E : Type 0} (r : Result T E) (P : Type 0) → P → OnOk r P
on_ok (Ok x) P p = p
on_ok (Err why) P p = tt

-- and where it failed
pub on_err : {T E : Type 0} (r : Result T E) (P : Type 0) → P → OnErr r P
on_err (Ok x) P p = tt
on_err (Err why) P p = p

pub begins : (segments : List Segment) (l : Log) → IsMadeOf segments l → first_or (map (λ s. s.first) segments) (next_of l) ≡ l.low
begins [] l made = omega (arith, ap length made.appends)
begins (s ∷ segments) l made = sym made.low

-- the numbers in memory are those of the log as it is now
pub numbers_are : ((t : Tree) (l k : Log) → IsLogOf t l → IsLogOf t k → l ≡ k) → (s : State) (firsts : List ℕ) (size next : ℕ) (h : History) → Mirrors s firsts size next → Keeps h s
    → (first_or firsts next ≡ h.now.low) × (next ≡ next_of h.now)
numbers_are one s firsts size next h m keeps =
    let same = same_log one s m.segments m.log h m.holds keeps in
    (ap₂ first_or m.firsts_are m.next_is ∙ begins m.segments m.log m.holds.made ∙ sym (ap (λ l. l.low) same), m.next_is ∙ sym (ap next_of same))

-- a log that is the same has the same in memory
module _ {S : Type 0} {l m : Open S} (is : l ≡ m) where
  pub same_firsts : l.firsts ≡ m.firsts
  same_firsts = ap (λ (q : Open S). q.firsts) is

  pub same_size : l.size ≡ m.size
  same_size = ap (λ (q : Open S). q.size) is

  pub same_next : l.next ≡ m.next
  same_next = ap (λ (q : Open S). q.next) is

  pub same_most : l.most ≡ m.most
  same_most = ap (λ (q : Open S). q.most) is
