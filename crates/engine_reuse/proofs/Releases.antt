-- Freed blocks that wait: which of them a release gives up, and which stay.
use Rattle.std.proofs.Common.{◌≡◌, ⊎_elim, ◌==◌, ◌||◌, ℕ, ◌+◌, ◌<◌, ◌≤◌, nat_le, not, Bool, true, false, cond, List, [], ◌∷◌, ◌++◌, length, take, drop, filter, map, slice_index_or, sym, ap, ◌∙◌, subst, arith, append-nil}
use Rattle.std.proofs.lemmas.Bool.{leb-true, le-leb, cases_eq, cond-true, cond-false}
use Rattle.std.proofs.lemmas.List.{drop_more, map_push, append_assoc, length_push}
use Rattle.std.proofs.lemmas.List.Elements.{filter_more}
use Rattle.std.specs.List.{AllPairs}
use Rattle.std.specs.List.Sorted.{IsPartitionedBy}
use Rattle.engine_reuse.specs.declared.waiting.Freed.{Freed}
use Rattle.engine_reuse.specs.Numbers.{is_among, NumberSet, set_of}
use Rattle.engine_reuse.specs.Inside.{is_going_home, blocks_at_rest}
use Rattle.engine_reuse.proofs.Members.{put_next}

-- the lower numbers come first
pub parted : (xs : List Freed) (sure : ℕ) → AllPairs (λ (p : Freed) q. p.number ≤ q.number) xs → IsPartitionedBy (λ (f : Freed). nat_le f.number sure) xs
parted xs sure up i j d le lt low =
    ⊎_elim (λ e. subst (λ k. nat_le (slice_index_or xs k d).number sure ≡ true) (sym e) low)
    (λ ne. le-leb _ _ (omega (arith, leb-true _ _ low, up i j d (omega (arith, le, ne)) lt))) (cases_eq i j)

-- The first of a row that was turned so far is taken off.

pub popped : (xs kept ys new : List Freed) (i : ℕ) (f : Freed) → i < length xs → ys ≡ drop i xs ++ kept → ys ≡ f ∷ new → (slice_index_or xs i f ≡ f) × (new ≡ drop (i + 1) xs ++ kept)
popped xs kept ys new i f low was is = (cc both, cc both)
  where
    both : slice_index_or xs i f ∷ (drop (i + 1) xs ++ kept) ≡ f ∷ new
    both = ap (λ zs. zs ++ kept) (sym (drop_more xs i f low)) ∙ sym was ∙ is

pub passes_more : (test : Freed → Bool) (xs : List Freed) (i : ℕ) (f : Freed) → i < length xs → slice_index_or xs i f ≡ f → test f ≡ true → filter test (take (i + 1) xs) ≡ filter test (take i xs) ++ f ∷ []
passes_more test xs i f low is passes =
    filter_more test xs i f low
    ∙ ap (λ g. filter test (take i xs) ++ cond (test g) (g ∷ []) []) is ∙ ap (λ zs. filter test (take i xs) ++ zs) (cond-true (test f) (f ∷ []) [] passes)

pub fails_more : (test : Freed → Bool) (xs : List Freed) (i : ℕ) (f : Freed) → i < length xs → slice_index_or xs i f ≡ f → test f ≡ false → filter test (take (i + 1) xs) ≡ filter test (take i xs)
fails_more test xs i f low is fails =
    filter_more test xs i f low
    ∙ ap (λ g. filter test (take i xs) ++ cond (test g) (g ∷ []) []) is ∙ ap (λ zs. filter test (take i xs) ++ zs) (cond-false (test f) (f ∷ []) [] fails)
    ∙ append-nil (filter test (take i xs))

-- So many of a row are done: those that are going home stand behind all others, and the blocks of the others are members.
pub record AreDone (home : List ℕ) (xs : List Freed) (limit : ℕ) (old : List ℕ) (i : ℕ) (row : List Freed) (count : ℕ) (s : NumberSet) : Type 0 where
  pub waiting : row ≡ drop i xs ++ filter (is_going_home home) (take i xs)
  pub kept : count ≡ length (filter (is_going_home home) (take i xs))
  pub reusable : s ≡ set_of limit (λ b. is_among b (blocks_at_rest home (take i xs)) || is_among b old)

-- one more, which is going home
pub stays_more : (home : List ℕ) (xs : List Freed) (limit : ℕ) (old : List ℕ) (i : ℕ) (row new : List Freed) (count : ℕ) (s : NumberSet) (f : Freed) → AreDone home xs limit old i row count s
    → i < length xs → row ≡ f ∷ new → is_going_home home f ≡ true → AreDone home xs limit old (i + 1) (new ++ f ∷ []) (count + 1) s
stays_more home xs limit old i row new count s f h low took moves = record {
  waiting =
      ap (λ ys. ys ++ f ∷ []) first.1 ∙ append_assoc (drop (i + 1) xs) (filter (is_going_home home) (take i xs)) (f ∷ [])
      ∙ ap (λ ys. drop (i + 1) xs ++ ys) (sym more);
  kept = omega (arith, h.kept, length_push (filter (is_going_home home) (take i xs)) f, ap length more);
  reusable = h.reusable ∙ ap (λ bs. set_of limit (λ b. is_among b bs || is_among b old)) (sym same);
}
  where
    first : (slice_index_or xs i f ≡ f) × (new ≡ drop (i + 1) xs ++ filter (is_going_home home) (take i xs))
    first = popped xs (filter (is_going_home home) (take i xs)) row new i f low h.waiting took

    more : filter (is_going_home home) (take (i + 1) xs) ≡ filter (is_going_home home) (take i xs) ++ f ∷ []
    more = passes_more (is_going_home home) xs i f low first.0 moves

    same : blocks_at_rest home (take (i + 1) xs) ≡ blocks_at_rest home (take i xs)
    same = ap (map (λ (g : Freed). g.block)) (fails_more (λ g. not (is_going_home home g)) xs i f low first.0 (ap not moves))

-- one more, which isn't
pub goes_more : (home : List ℕ) (xs : List Freed) (limit : ℕ) (old : List ℕ) (i : ℕ) (row new : List Freed) (count : ℕ) (s t : NumberSet) (f : Freed) → AreDone home xs limit old i row count s
    → i < length xs → row ≡ f ∷ new → is_going_home home f ≡ false → t ≡ set_of s.limit (λ b. b == f.block || is_among b s.members) → AreDone home xs limit old (i + 1) new count t
goes_more home xs limit old i row new count s t f h low took rests put = record {
  waiting = first.1 ∙ ap (λ ys. drop (i + 1) xs ++ ys) (sym same);
  kept = h.kept ∙ ap length (sym same);
  reusable =
      put_next limit (blocks_at_rest home (take i xs)) old f.block s t h.reusable put
      ∙ ap (λ bs. set_of limit (λ b. is_among b bs || is_among b old)) (sym more);
}
  where
    first : (slice_index_or xs i f ≡ f) × (new ≡ drop (i + 1) xs ++ filter (is_going_home home) (take i xs))
    first = popped xs (filter (is_going_home home) (take i xs)) row new i f low h.waiting took

    same : filter (is_going_home home) (take (i + 1) xs) ≡ filter (is_going_home home) (take i xs)
    same = fails_more (is_going_home home) xs i f low first.0 rests

    more : blocks_at_rest home (take (i + 1) xs) ≡ blocks_at_rest home (take i xs) ++ f.block ∷ []
    more =
        ap (map (λ (g : Freed). g.block)) (passes_more (λ g. not (is_going_home home g)) xs i f low first.0 (ap not rests))
        ∙ map_push (λ (g : Freed). g.block) (filter (λ g. not (is_going_home home g)) (take i xs)) f
