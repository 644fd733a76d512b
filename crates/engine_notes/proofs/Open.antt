-- What is open: a ticket that is expected and isn't noticed.
use Rattle.std.proofs.Common.{◌≡◌, ℕ, suc, ◌==◌, ◌&&◌, ◌<◌, not, Bool, true, false, if◌then◌else◌, List, [], ◌∷◌, length, take, slice_get, slice_index_or, Some, refl, sym, ◌∙◌, ap, arith}
use Rattle.std.proofs.lemmas.Bool.Decides.{nat_tests}
use Rattle.std.proofs.lemmas.Bool.{and_parts, and_from}
use Rattle.engine_notes.specs.declared.notes.Note.{Note}
use Rattle.engine_notes.specs.Notes.{is_expected, is_noticed, is_open, none_open, are_expected, are_noticed}
use Rattle.engine_notes.proofs.Marks.{expected_at, mark_at}

-- a ticket whose place is known is open where it has no mark
pub open_at : (t : ℕ) (ns : List Note) (at : ℕ) (d : Note) → at < length ns → is_expected t (take at ns) ≡ false → ((n : Note) → slice_get ns at ≡ Some n → n.ticket ≡ t) → not (slice_index_or ns at d).noticed ≡ is_open t ns
open_at t ns at d lt none own = ap not (mark_at t ns at d lt none own) ∙ sym (ap (λ b. b && not (is_noticed t ns)) (expected_at t ns at lt own))

-- one that isn't expected isn't open
pub closed : (t : ℕ) (ns : List Note) → is_expected t ns ≡ false → false ≡ is_open t ns
closed t ns none = sym (ap (λ b. b && not (is_noticed t ns)) none)

-- where each note is marked, what is expected is noticed
marked_where_all : (t : ℕ) (ns : List Note) → ((k : ℕ) (n : Note) → slice_get ns k ≡ Some n → n.noticed ≡ true) → is_expected t ns ≡ is_noticed t ns
marked_where_all t [] all = refl
marked_where_all t (n ∷ ns) all = by (n.ticket == t) (marked_where_all t ns (λ k m is. all (suc k) m is))
  where
    by : (v : Bool) → is_expected t ns ≡ is_noticed t ns → (if v then true else is_expected t ns) ≡ (if v then n.noticed else is_noticed t ns)
    by true rest = sym (all 0 n refl)
    by false rest = rest

never_both : (b c : Bool) → b ≡ c → not (b && not c) ≡ true
never_both b true e = grind (arith, nat_tests)
never_both b false e = ap (λ d. not (d && true)) e

pub none_open_where_all : (ns : List Note) → ((k : ℕ) (n : Note) → slice_get ns k ≡ Some n → n.noticed ≡ true) → (ts : List ℕ) → none_open ts ns ≡ true
none_open_where_all ns all [] = refl
none_open_where_all ns all (t ∷ ts) = and_from (not (is_open t ns)) (none_open ts ns) (never_both (is_expected t ns) (is_noticed t ns) (marked_where_all t ns all)) (none_open_where_all ns all ts)

-- one that is expected is open or noticed
not_twice : (b c : Bool) → b ≡ true → not (b && not c) ≡ c
not_twice b c e = grind (arith, nat_tests)

pub noticed_or_open : (ts : List ℕ) (ns : List Note) → are_expected ts ns ≡ true → none_open ts ns ≡ are_noticed ts ns
noticed_or_open [] ns e = refl
noticed_or_open (t ∷ ts) ns e =
    let p = and_parts (is_expected t ns) (are_expected ts ns) e in
    ap (λ b. b && none_open ts ns) (not_twice (is_expected t ns) (is_noticed t ns) p.0) ∙ ap (λ b. is_noticed t ns && b) (noticed_or_open ts ns p.1)
