-- The members of a set of numbers, as its bits change.
use Rattle.std.proofs.Common.{◌≡◌, ◌≢◌, ℕ, ◌+◌, ◌-◌, ◌*◌, ◌/◌, ◌%◌, ◌^◌, ◌<◌, ◌≤◌, ◌==◌, ◌&&◌, ◌||◌, not, Bool, true, false, ◌⊎◌, inl, inr, List, [], ◌∷◌, ◌++◌, length, take, min, slice_index, if◌then◌else◌, refl, sym, ap, ap₂, ◌∙◌, arith, append-nil}
use Rattle.std.proofs.Math.Bool.{and-true, and-false}
use Rattle.std.proofs.lemmas.Bool.{cases_eq, cases_lt, eq-eqb, ne_eqb, false≢true}
use Rattle.std.proofs.lemmas.List.{get_or_past, take_at, take_min}
use Rattle.std.proofs.lemmas.List.Folds.{list_any-append}
use Rattle.std.proofs.lemmas.Nat.Bits.{bit_at-zero}
use Rattle.std.specs.Int.{bit_at}
use Rattle.std.specs.List.{filter, range_with_len}
use Rattle.std.proofs.lemmas.Bool.Decides.{nat_tests}
use Rattle.std.proofs.lemmas.List.FromFn.{length-range_with_len}
use Rattle.std.proofs.lemmas.List.Filters.{length-filter_both}
use Rattle.engine_reuse.specs.Numbers.{is_among, numbers_below, NumberSet, set_of}
use Rattle.engine_reuse.specs.Words.{has_bit, numbers_in, SaysFilled, AreRows}
use Rattle.engine_reuse.proofs.Ranges.{among-filter, among_inside, among_outside, same_from, none_from, kept_split, one_more}

-- a number below the limit is a member where it passes the test
pub among_below : (limit : ℕ) (test : ℕ → Bool) (b : ℕ) → b < limit → is_among b (numbers_below limit test) ≡ test b
among_below limit test b low = among-filter test b (range_with_len 0 limit) ∙ ap (λ t. test b && t) (among_inside b 0 limit (omega arith) (omega (arith, low))) ∙ and-true (test b)

-- two tests that agree below the limit make the same set
pub same_set_of : (limit : ℕ) (p q : ℕ → Bool) → ((b : ℕ) → b < limit → p b ≡ q b) → set_of limit p ≡ set_of limit q
same_set_of limit p q same = ap (λ xs. record { limit = limit; members = xs }) (same_from p q 0 limit (λ b _ below. same b (omega (arith, below))))

-- a set is that of its own members
pub set_is_its_members : (words : List ℕ) → (let s : NumberSet = record { limit = 64 * length words; members = numbers_in words } in s ≡ set_of s.limit (λ b. is_among b s.members))
set_is_its_members words = same_set_of (64 * length words) (has_bit words) (λ b. is_among b (numbers_in words)) (λ b low. sym (among_below (64 * length words) (has_bit words) b low))

pub member_is : (words : List ℕ) (b : ℕ) → b < 64 * length words → has_bit words b ≡ is_among b (numbers_in words)
member_is words b low = sym (among_below (64 * length words) (has_bit words) b low)

-- a number past the row's end has no bit there
pub no_bit_past : (words : List ℕ) (b : ℕ) → 64 * length words ≤ b → has_bit words b ≡ false
no_bit_past words b past = ap (λ x. x == 1) (ap (λ x. bit_at x (b % 64)) (get_or_past words (b / 64) 0 (omega (arith, past))) ∙ bit_at-zero (b % 64))

pub no_member_past : (limit : ℕ) (test : ℕ → Bool) (b : ℕ) → limit ≤ b → is_among b (numbers_below limit test) ≡ false
no_member_past limit test b past = among-filter test b (range_with_len 0 limit) ∙ ap (λ t. test b && t) (among_outside b 0 limit (inr (omega (arith, past)))) ∙ and-false (test b)

pub bit_within : (words : List ℕ) (b : ℕ) → has_bit words b ≡ true → b < 64 * length words
bit_within words b has = elim (cases_lt b (64 * length words)) [
  | inl l ↦ l
  | inr past ↦ absurd (false≢true (sym (no_bit_past words b past) ∙ has))
]

pub is_member : (words : List ℕ) (b : ℕ) → has_bit words b ≡ is_among b (numbers_in words)
is_member words b = elim (cases_lt b (64 * length words)) [
  | inl l ↦ member_is words b l
  | inr past ↦ no_bit_past words b past ∙ sym (no_member_past (64 * length words) (has_bit words) b past)
]

-- there are no more members than numbers below the limit
pub few_kept : (p : ℕ → Bool) (a n : ℕ) → length (filter p (range_with_len a n)) ≤ n
few_kept p a n = omega (arith, length-filter_both p (λ b. not (p b)) (λ b. refl) (range_with_len a n), length-range_with_len a n)

pub few_rows : (words filled : List ℕ) (count : ℕ) → AreRows words filled count → count + 1 < 2 ^ 32
few_rows words filled count rows = omega (arith, rows.count_is, rows.few_words, few_kept (has_bit words) 0 (64 * length words))

-- rows of zeros have no number
pub no_rows : (words filled : List ℕ) → ((b : ℕ) → has_bit words b ≡ false) → ((w : ℕ) → slice_index words w ≡ 0) → ((b : ℕ) → has_bit filled b ≡ false) → length words ≤ 64 * length filled → length words ≤ 16384 → length filled ≤ 16384 → AreRows words filled 0
no_rows words filled none zeros none_filled enough few_words few_filled = record {
  says = λ w. none_filled w ∙ ap (λ x. not (x == 0)) (sym (zeros w));
  count_is = ap length (sym (none_from (has_bit words) 0 (64 * length words) (λ b _ _. none b)));
  enough = enough;
  few_words = few_words;
  few_filled = few_filled;
}

-- a word with a bit isn't 0
pub filled_word : (words : List ℕ) (b : ℕ) → has_bit words b ≡ true → (slice_index words (b / 64) == 0) ≡ false
filled_word words b has = ne_eqb (slice_index words (b / 64)) 0 (λ e. false≢true (sym (ap (λ x. x == 1) (ap (λ x. bit_at x (b % 64)) e ∙ bit_at-zero (b % 64))) ∙ has))

-- The rows with a number more.

pub record HasPut (words new : List ℕ) (b : ℕ) : Type 0 where
  pub bits : (c : ℕ) → has_bit new c ≡ (c == b || has_bit words c)
  pub others : (w : ℕ) → w ≢ b / 64 → slice_index new w ≡ slice_index words w
  pub len : length new ≡ length words

pub rows_with : (words filled new_words new_filled : List ℕ) (count b : ℕ) → AreRows words filled count → b < 64 * length words → has_bit words b ≡ false
    → HasPut words new_words b → HasPut filled new_filled (b / 64) → AreRows new_words new_filled (count + 1)
rows_with words filled new_words new_filled count b rows low out put mark = record {
  says = λ w. elim (cases_eq w (b / 64)) [
    | inl e ↦ mark.bits w ∙ ap (λ t. t || has_bit filled w) (eq-eqb w (b / 64) e) ∙ ap not (sym (ap (λ v. slice_index new_words v == 0) e ∙ filled_word new_words b own))
    | inr d ↦ mark.bits w ∙ ap (λ t. t || has_bit filled w) (ne_eqb w (b / 64) d) ∙ rows.says w ∙ ap (λ x. not (x == 0)) (sym (put.others w d))
  ];
  count_is = omega (arith, rows.count_is, more);
  enough = omega (arith, rows.enough, put.len, mark.len);
  few_words = omega (arith, rows.few_words, put.len);
  few_filled = omega (arith, rows.few_filled, mark.len);
}
  where
    own : has_bit new_words b ≡ true
    own = put.bits b ∙ ap (λ t. t || has_bit words b) (eq-eqb b b refl)

    more : length (numbers_in new_words) ≡ length (numbers_in words) + 1
    more =
        ap (λ n. length (numbers_below (64 * n) (has_bit new_words))) put.len
        ∙ one_more (has_bit new_words) (has_bit words) b 0 (64 * length words) (omega arith) (omega (arith, low)) own out
        (λ k apart. sym (put.bits k ∙ ap (λ t. t || has_bit words k) (ne_eqb k b apart)))

-- the set then has the number
pub set_with : (words new : List ℕ) (b : ℕ) → HasPut words new b
    → (let s : NumberSet = record { limit = 64 * length new; members = numbers_in new } in s ≡ set_of (64 * length words) (λ c. c == b || is_among c (numbers_in words)))
set_with words new b put =
    ap (λ n. set_of (64 * n) (has_bit new)) put.len
    ∙ same_set_of (64 * length words) (has_bit new) (λ c. c == b || is_among c (numbers_in words)) (λ c low. put.bits c ∙ ap (λ t. c == b || t) (member_is words c low))

-- and a number that is a member already changes nothing
pub put_again : (words : List ℕ) (b : ℕ) → has_bit words b ≡ true
    → (let s : NumberSet = record { limit = 64 * length words; members = numbers_in words } in s ≡ set_of s.limit (λ c. c == b || is_among c s.members))
put_again words b has = same_set_of (64 * length words) (has_bit words) (λ c. c == b || is_among c (numbers_in words)) (λ c below. elim (cases_eq c b) [
  | inl e ↦ ap (has_bit words) e ∙ has ∙ sym (ap (λ t. t || is_among c (numbers_in words)) (eq-eqb c b e))
  | inr d ↦ member_is words c below ∙ ap (λ t. t || is_among c (numbers_in words)) (sym (ne_eqb c b d))
])

-- nor does a number past the limit
pub put_past : (words : List ℕ) (b : ℕ) → 64 * length words ≤ b
    → (let s : NumberSet = record { limit = 64 * length words; members = numbers_in words } in s ≡ set_of s.limit (λ c. c == b || is_among c s.members))
put_past words b past =
    same_set_of (64 * length words) (has_bit words) (λ c. c == b || is_among c (numbers_in words))
    (λ c below. member_is words c below ∙ ap (λ t. t || is_among c (numbers_in words)) (sym (ne_eqb c b (λ e. omega (arith, below, past, e)))))

-- The rows with a number less.

pub record HasTakenOut (words new : List ℕ) (b : ℕ) : Type 0 where
  pub bits : (c : ℕ) → has_bit new c ≡ (not (c == b) && has_bit words c)
  pub others : (w : ℕ) → w ≢ b / 64 → slice_index new w ≡ slice_index words w
  pub len : length new ≡ length words

pub rows_without : (words filled new_words new_filled : List ℕ) (count b : ℕ) → AreRows words filled count → b < 64 * length words → has_bit words b ≡ true
    → HasTakenOut words new_words b → ((w : ℕ) → has_bit new_filled w ≡ (not (w == b / 64 && slice_index new_words (b / 64) == 0) && has_bit filled w)) → length new_filled ≡ length filled
    → (1 ≤ count) × AreRows new_words new_filled (count - 1)
rows_without words filled new_words new_filled count b rows low own out mark same = (
  omega (arith, rows.count_is, fewer),
  record {
    says = λ w. elim (cases_eq w (b / 64)) [
      | inl e ↦
          mark w ∙ ap₂ (λ t u. not (t && slice_index new_words (b / 64) == 0) && u) (eq-eqb w (b / 64) e) (ap (has_bit filled) e ∙ rows.says (b / 64) ∙ ap not (filled_word words b own))
          ∙ and-true (not (slice_index new_words (b / 64) == 0)) ∙ ap (λ v. not (slice_index new_words v == 0)) (sym e)
      | inr d ↦
          mark w ∙ ap (λ t. not (t && slice_index new_words (b / 64) == 0) && has_bit filled w) (ne_eqb w (b / 64) d)
          ∙ rows.says w ∙ ap (λ x. not (x == 0)) (sym (out.others w d))
    ];
    count_is = omega (arith, rows.count_is, fewer);
    enough = omega (arith, rows.enough, out.len, same);
    few_words = omega (arith, rows.few_words, out.len);
    few_filled = omega (arith, rows.few_filled, same);
  },
)
  where
    fewer : length (numbers_in words) ≡ length (numbers_in new_words) + 1
    fewer =
        one_more (has_bit words) (has_bit new_words) b 0 (64 * length words) (omega arith) (omega (arith, low)) own (out.bits b ∙ ap (λ t. not t && has_bit words b) (eq-eqb b b refl))
        (λ k apart. out.bits k ∙ ap (λ t. not t && has_bit words k) (ne_eqb k b apart))
        ∙ ap (λ n. length (numbers_below (64 * n) (has_bit new_words)) + 1) (sym out.len)

pub set_without : (words new : List ℕ) (b : ℕ) → HasTakenOut words new b
    → (let s : NumberSet = record { limit = 64 * length new; members = numbers_in new } in s ≡ set_of (64 * length words) (λ c. not (c == b) && is_among c (numbers_in words)))
set_without words new b out =
    ap (λ n. set_of (64 * n) (has_bit new)) out.len
    ∙ same_set_of (64 * length words) (has_bit new) (λ c. not (c == b) && is_among c (numbers_in words)) (λ c low. out.bits c ∙ ap (λ t. not (c == b) && t) (member_is words c low))

pub none_to_take : (words : List ℕ) (b : ℕ) → has_bit words b ≡ false
    → (let s : NumberSet = record { limit = 64 * length words; members = numbers_in words } in s ≡ set_of s.limit (λ c. not (c == b) && is_among c s.members))
none_to_take words b hasnt = same_set_of (64 * length words) (has_bit words) (λ c. not (c == b) && is_among c (numbers_in words)) (λ c below. elim (cases_eq c b) [
  | inl e ↦ ap (has_bit words) e ∙ hasnt ∙ sym (ap (λ t. not t && is_among c (numbers_in words)) (eq-eqb c b e))
  | inr d ↦ member_is words c below ∙ ap (λ t. not t && is_among c (numbers_in words)) (sym (ne_eqb c b d))
])

-- The members after many steps.

-- one number more at the end of a list
among_push : (b : ℕ) (xs : List ℕ) (x : ℕ) → is_among b (xs ++ x ∷ []) ≡ (b == x || is_among b xs)
among_push b xs x = grind (arith, nat_tests, list_any-append (λ y. y == b) xs (x ∷ []))

pub put_next : (limit : ℕ) (xs old : List ℕ) (x : ℕ) (s new : NumberSet) → s ≡ set_of limit (λ b. is_among b xs || is_among b old) → new ≡ set_of s.limit (λ b. b == x || is_among b s.members)
    → new ≡ set_of limit (λ b. is_among b (xs ++ x ∷ []) || is_among b old)
put_next limit xs old x s new before after =
    after ∙ ap (λ (q : NumberSet). set_of q.limit (λ b. b == x || is_among b q.members)) before
    ∙ same_set_of limit _ _ (λ b below. grind (arith, among_below limit (λ c. is_among c xs || is_among c old) b below, among_push b xs x))

pub take_out_next : (limit : ℕ) (xs old : List ℕ) (x : ℕ) (s new : NumberSet) → s ≡ set_of limit (λ b. not (is_among b xs) && is_among b old) → new ≡ set_of s.limit (λ b. not (b == x) && is_among b s.members)
    → new ≡ set_of limit (λ b. not (is_among b (xs ++ x ∷ [])) && is_among b old)
take_out_next limit xs old x s new before after =
    after ∙ ap (λ (q : NumberSet). set_of q.limit (λ b. not (b == x) && is_among b q.members)) before
    ∙ same_set_of limit _ _ (λ b below. grind (arith, among_below limit (λ c. not (is_among c xs) && is_among c old) b below, among_push b xs x))

-- The least members, found one by one.

-- so many were found: all members before this number
pub record AreFound (words found : List ℕ) (from : ℕ) : Type 0 where
  pub below : from ≤ 64 * length words
  pub are : found ≡ numbers_below from (has_bit words)

pub one_found : (words found : List ℕ) (from b : ℕ) → AreFound words found from → from ≤ b → b < 64 * length words → has_bit words b ≡ true
    → ((c : ℕ) → from ≤ c → c < b → has_bit words c ≡ false) → AreFound words (found ++ b ∷ []) (b + 1)
one_found words found from b h low high has before = record {
  below = omega (arith, high);
  are =
      ap (λ xs. xs ++ b ∷ []) h.are
      ∙ ap (λ xs. numbers_below from (has_bit words) ++ xs) (sym next)
      ∙ sym (kept_split (has_bit words) 0 from (b - from + 1))
      ∙ ap (λ n. numbers_below n (has_bit words)) {x = from + (b - from + 1)} {y = b + 1} (omega (arith, low));
}
  where
    one : filter (has_bit words) (range_with_len b 1) ≡ b ∷ []
    one = ap (λ t. if t then b ∷ [] else []) has

    next : filter (has_bit words) (range_with_len (0 + from) (b - from + 1)) ≡ b ∷ []
    next =
        kept_split (has_bit words) (0 + from) (b - from) 1
        ∙ ap₂ ◌++◌ (none_from (has_bit words) (0 + from) (b - from) (λ c l u. before c (omega (arith, l)) (omega (arith, u, low))))
        (ap (λ a. filter (has_bit words) (range_with_len a 1)) {x = 0 + from + (b - from)} {y = b} (omega (arith, low)) ∙ one)

-- what was found are the first members, and all where none is left
-- the members are those that were found, and those from this number on
found_split : (words found : List ℕ) (from : ℕ) → AreFound words found from → numbers_in words ≡ found ++ filter (has_bit words) (range_with_len (0 + from) (64 * length words - from))
found_split words found from h =
    ap (λ n. numbers_below n (has_bit words)) {x = 64 * length words} {y = from + (64 * length words - from)} (omega (arith, h.below))
    ∙ kept_split (has_bit words) 0 from (64 * length words - from) ∙ ap (λ xs. xs ++ filter (has_bit words) (range_with_len (0 + from) (64 * length words - from))) (sym h.are)

pub found_first : (words found : List ℕ) (from : ℕ) → AreFound words found from → found ≡ take (length found) (numbers_in words)
found_first words found from h = sym (ap (take (length found)) (found_split words found from h) ∙ take_at found _ (length found) refl)

pub found_enough : (words found : List ℕ) (from n : ℕ) → AreFound words found from → min n (length (numbers_in words)) ≤ length found → length found ≤ min n (length (numbers_in words)) → found ≡ take n (numbers_in words)
found_enough words found from n h least most =
    found_first words found from h ∙ ap (λ k. take k (numbers_in words)) {x = length found} {y = min n (length (numbers_in words))} (omega (arith, least, most)) ∙ take_min n (numbers_in words)

pub found_all : (words found : List ℕ) (from n : ℕ) → AreFound words found from → ((c : ℕ) → from ≤ c → has_bit words c ≡ false) → length found ≤ min n (length (numbers_in words)) → found ≡ take n (numbers_in words)
found_all words found from n h none most = found_enough words found from n h (omega (arith, ap length whole)) most
  where
    whole : numbers_in words ≡ found
    whole = found_split words found from h ∙ ap (λ xs. found ++ xs) (none_from (has_bit words) (0 + from) (64 * length words - from) (λ c l u. none c (omega (arith, l)))) ∙ append-nil found

-- The first member behind those of a word.

-- no bit of the words between, where the second row has none
pub none_between : (words filled : List ℕ) (w v c : ℕ) → SaysFilled words filled → ((u : ℕ) → w ≤ u → u < v → has_bit filled u ≡ false) → 64 * w ≤ c → c < 64 * v → has_bit words c ≡ false
none_between words filled w v c says none low high = elim (cases_eq (slice_index words (c / 64)) 0) [
  | inl e ↦ ap (λ x. x == 1) (ap (λ x. bit_at x (c % 64)) e ∙ bit_at-zero (c % 64))
  | inr d ↦ absurd (false≢true (sym (none (c / 64) (omega (arith, low)) (omega (arith, high))) ∙ says (c / 64) ∙ ap not (ne_eqb (slice_index words (c / 64)) 0 d)))
]

-- a bit of the row is that of its word
bit_in_word : (words : List ℕ) (w i : ℕ) → i < 64 → bit_at (slice_index words w) i ≡ 0 → (c : ℕ) → c ≡ 64 * w + i → has_bit words c ≡ false
bit_in_word words w i low none c is =
    ap (λ v. bit_at (slice_index words v) (c % 64) == 1) {x = c / 64} {y = w} (omega (arith, low, is))
    ∙ ap (λ j. bit_at (slice_index words w) j == 1) {x = c % 64} {y = i} (omega (arith, low, is)) ∙ ap (λ x. x == 1) none

-- no number stands between one and the first of the next word that has any
pub none_before : (words filled : List ℕ) (from v j : ℕ) → SaysFilled words filled → ((i : ℕ) → from % 64 ≤ i → i < 64 → bit_at (slice_index words (from / 64)) i ≡ 0)
    → ((u : ℕ) → from / 64 + 1 ≤ u → u < v → has_bit filled u ≡ false) → j < 64 → ((i : ℕ) → i < j → bit_at (slice_index words v) i ≡ 0)
    → (c : ℕ) → from ≤ c → c < 64 * v + j → has_bit words c ≡ false
none_before words filled from v j says own between small first c low high = by (cases_lt c (64 * (from / 64 + 1))) (cases_lt c (64 * v))
  where
    by : (c < 64 * (from / 64 + 1)) ⊎ (64 * (from / 64 + 1) ≤ c) → (c < 64 * v) ⊎ (64 * v ≤ c) → has_bit words c ≡ false
    by (inl l) _ = bit_in_word words (from / 64) (c % 64) (omega arith) (own (c % 64) (omega (arith, low, l)) (omega arith)) c (omega (arith, low, l))
    by (inr h) (inl l) = none_between words filled (from / 64 + 1) v c says between h l
    by (inr h) (inr r) = bit_in_word words v (c - 64 * v) (omega (arith, high, small, r)) (first (c - 64 * v) (omega (arith, high, r))) c (omega (arith, r))
