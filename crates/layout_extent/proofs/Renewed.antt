-- Lists of which some places are renewed, put together from the front, and joined lists.
use Rattle.std.proofs.Common.{◌≡◌, ◌⊎◌, inl, inr, ℕ, zero, suc, ◌+◌, ◌-◌, ◌<◌, ◌≤◌, Bool, true, false, cond, if◌then◌else◌, ◌&&◌, nat_le, nat_lt, List, [], ◌∷◌, ◌++◌, length, get_or, take, drop, Some, refl, sym, ap, ap₂, ◌∙◌, arith, min, append_assoc}
use Rattle.std.proofs.lemmas.Bool.{cases_lt, lt-ltb, le-ltb, le-leb, lt-leb, leb-true, leb-false, ltb-true, ltb-false}
use Rattle.std.proofs.lemmas.List.{append-nil, drop_more, length-drop, take-append-drop}
use Rattle.base_types.specs.declared.places.Run.{Run}
use Rattle.base_types.specs.Runs.{blocks_from, run_places}
use Rattle.layout_extent.specs.declared.renew.Joining.{Joining}
use Rattle.layout_extent.specs.Next.{next_number, goes_on}
use Rattle.layout_extent.specs.Renew.{IsJoined, makes_way, renew, renewed}
use Rattle.layout_extent.proofs.Count.{stretches_run, next_run}

-- Where the test holds nowhere, the new ones come behind all.
pub renew_nowhere : (test : ℕ → Bool) (i : ℕ) (places more : List ℕ) → ((j : ℕ) → j < length places → test (i + j) ≡ false) → renew test i places more ≡ places ++ more
renew_nowhere test i [] more fails = refl
renew_nowhere test i (b ∷ bs) [] fails = sym (append-nil (b ∷ bs))
renew_nowhere test i (b ∷ bs) (c ∷ more) fails =
    ap (λ t. if t then c ∷ renew test (i + 1) bs more else b ∷ renew test (i + 1) bs (c ∷ more)) (ap test {x = i} {y = i + 0} (omega arith) ∙ fails 0 (omega arith))
    ∙ ap (λ xs. b ∷ xs) (renew_nowhere test (i + 1) bs (c ∷ more) (λ j h. ap test {x = i + 1 + j} {y = i + suc j} (omega arith) ∙ fails (suc j) (omega (arith, h))))

no_more : (test : ℕ → Bool) (k : ℕ) (bs : List ℕ) → renew test k bs [] ≡ bs
no_more test k [] = refl
no_more test k (b ∷ bs) = refl

pub renew_none : (i : ℕ) (places more : List ℕ) → renew (λ j. false) i places more ≡ places ++ more
renew_none i places more = renew_nowhere (λ j. false) i places more (λ j h. refl)

-- A front where it fails stays.
pub renew_behind : (test : ℕ → Bool) (i n : ℕ) (places more : List ℕ) → n ≤ length places → ((j : ℕ) → j < n → test (i + j) ≡ false)
    → take n places ++ renew test (i + n) (drop n places) more ≡ renew test i places more
renew_behind test i zero places more h fails = ap (λ k. renew test k places more) {x = i + zero} {y = i} (omega arith)
renew_behind test i (suc n) [] more h fails = absurd (omega (arith, h))
renew_behind test i (suc n) (b ∷ bs) [] h fails =
    ap (λ xs. b ∷ xs) (ap (λ xs. take n bs ++ xs) (no_more test (i + suc n) (drop n bs)) ∙ take-append-drop n bs)
renew_behind test i (suc n) (b ∷ bs) (c ∷ more) h fails =
    ap (λ k. b ∷ (take n bs ++ renew test k (drop n bs) (c ∷ more))) {x = i + suc n} {y = i + 1 + n} (omega arith)
    ∙ ap (λ xs. b ∷ xs) (renew_behind test (i + 1) n bs (c ∷ more) (omega (arith, h)) (λ j p. ap test {x = i + 1 + j} {y = i + suc j} (omega arith) ∙ fails (suc j) (omega (arith, p))))
    ∙ sym (ap (λ t. if t then c ∷ renew test (i + 1) bs more else b ∷ renew test (i + 1) bs (c ∷ more)) (ap test {x = i} {y = i + 0} (omega arith) ∙ fails 0 (omega arith)))

-- One place: there is a new number and the test holds, so that one stands there; or the number stays.

pub one_renewed : (test : ℕ → Bool) (i : ℕ) (places more : List ℕ) (used : ℕ) → i < length places → used < length more → test i ≡ true
    → get_or more used 0 ∷ renew test (i + 1) (drop (i + 1) places) (drop (used + 1) more) ≡ renew test i (drop i places) (drop used more)
one_renewed test i places more used within some holds =
    sym (ap (λ t. if t then get_or more used 0 ∷ renew test (i + 1) (drop (i + 1) places) (drop (used + 1) more)
    else get_or places i 0 ∷ renew test (i + 1) (drop (i + 1) places) (get_or more used 0 ∷ drop (used + 1) more)) holds)
    ∙ sym (ap₂ (renew test i) (drop_more places i 0 within) (drop_more more used 0 some))

stays_by : (test : ℕ → Bool) (i b : ℕ) (bs more : List ℕ) → (0 < length more → test i ≡ false) → b ∷ renew test (i + 1) bs more ≡ renew test i (b ∷ bs) more
stays_by test i b [] [] fails = refl
stays_by test i b (d ∷ bs) [] fails = refl
stays_by test i b bs (c ∷ more) fails = sym (ap (λ t. if t then c ∷ renew test (i + 1) bs more else b ∷ renew test (i + 1) bs (c ∷ more)) (fails (omega arith)))

pub one_stays : (test : ℕ → Bool) (i : ℕ) (places more : List ℕ) (used : ℕ) → i < length places → (used < length more → test i ≡ false)
    → get_or places i 0 ∷ renew test (i + 1) (drop (i + 1) places) (drop used more) ≡ renew test i (drop i places) (drop used more)
one_stays test i places more used within fails =
    stays_by test i (get_or places i 0) (drop (i + 1) places) (drop used more) (λ some. fails (omega (arith, some, length-drop used more)))
    ∙ sym (ap (λ bs. renew test i bs (drop used more)) (drop_more places i 0 within))

-- The test of a range of places.

pub way_within : (from past : ℕ) (has : ℕ → Bool) (places : List ℕ) (i : ℕ) → from ≤ i → i < past → makes_way from past has places i ≡ has (get_or places i 0)
way_within from past has places i low high =
    ap (λ t. t && (nat_lt i past && has (get_or places i 0))) (le-leb from i low) ∙ ap (λ t. t && has (get_or places i 0)) (lt-ltb i past high)

pub way_before : (from past : ℕ) (has : ℕ → Bool) (places : List ℕ) (i : ℕ) → i < from → makes_way from past has places i ≡ false
way_before from past has places i low = ap (λ t. t && (nat_lt i past && has (get_or places i 0))) (lt-leb from i low)

and_none : (t : Bool) → (t && false) ≡ false
and_none true = refl
and_none false = refl

pub way_behind : (from past : ℕ) (has : ℕ → Bool) (places : List ℕ) (i : ℕ) → past ≤ i → makes_way from past has places i ≡ false
way_behind from past has places i high = ap (λ t. nat_le from i && (t && has (get_or places i 0))) (le-ltb i past high) ∙ and_none (nat_le from i)

-- Two tests that agree at the list's places renew alike.
pub renew_alike : (test other : ℕ → Bool) (i : ℕ) (places more : List ℕ) → ((j : ℕ) → j < length places → test (i + j) ≡ other (i + j)) → renew test i places more ≡ renew other i places more
renew_alike test other i [] more same = refl
renew_alike test other i (b ∷ bs) [] same = refl
renew_alike test other i (b ∷ bs) (c ∷ more) same =
    let here : test i ≡ other i = ap test {x = i} {y = i + 0} (omega arith) ∙ same 0 (omega arith) ∙ ap other {x = i + 0} {y = i} (omega arith) in
    let there = λ (j : ℕ) (h : j < length bs). ap test {x = i + 1 + j} {y = i + suc j} (omega arith) ∙ same (suc j) (omega (arith, h)) ∙ ap other {x = i + suc j} {y = i + 1 + j} (omega arith) in
    ap (λ t. if t then c ∷ renew test (i + 1) bs more else b ∷ renew test (i + 1) bs (c ∷ more)) here
    ∙ ap₂ (λ xs ys. if other i then c ∷ xs else b ∷ ys) (renew_alike test other (i + 1) bs more there) (renew_alike test other (i + 1) bs (c ∷ more) there)

-- The range may be cut at the list's end.

low_by : (from count j : ℕ) (t : Bool) → nat_le from j ≡ t → j < count → nat_le (min from count) j ≡ t
low_by from count j true e h = le-leb (min from count) j (omega (arith, h, leb-true from j e))
low_by from count j false e h = lt-leb (min from count) j (omega (arith, h, leb-false from j e))

high_by : (past count j : ℕ) (t : Bool) → nat_lt j past ≡ t → j < count → nat_lt j (min past count) ≡ t
high_by past count j true e h = lt-ltb j (min past count) (omega (arith, h, ltb-true j past e))
high_by past count j false e h = le-ltb j (min past count) (omega (arith, h, ltb-false j past e))

pub renewed_within : (from past : ℕ) (has : ℕ → Bool) (places more : List ℕ)
    → renewed (min from (length places)) (min past (length places)) has places more ≡ renewed from past has places more
renewed_within from past has places more =
    renew_alike (makes_way (min from (length places)) (min past (length places)) has places) (makes_way from past has places) 0 places more
    (λ j h. ap (makes_way (min from (length places)) (min past (length places)) has places) {x = 0 + j} {y = j} (omega arith)
    ∙ ap₂ (λ s t. s && (t && has (get_or places j 0))) (low_by from (length places) j (nat_le from j) refl h) (high_by past (length places) j (nat_lt j past) refl h)
    ∙ ap (makes_way from past has places) {x = j} {y = 0 + j} (omega arith))

fails_by : (n : ℕ) (has : ℕ → Bool) (places : List ℕ) (j : ℕ) → (j < n) ⊎ (n ≤ j) → makes_way n n has places j ≡ false
fails_by n has places j (inl h) = way_before n n has places j h
fails_by n has places j (inr h) = way_behind n n has places j h

-- in no range nothing is renewed
pub renewed_nowhere : (n : ℕ) (has : ℕ → Bool) (places more : List ℕ) → renewed n n has places more ≡ places ++ more
renewed_nowhere n has places more = renew_nowhere (makes_way n n has places) 0 places more (λ j h. ap (makes_way n n has places) {x = 0 + j} {y = j} (omega arith) ∙ fails_by n has places j (cases_lt j n))

-- The parts of a renewed list, one behind the other: a front that stays, what was renewed, and the rest.
pub renewed_parts : (from past : ℕ) (has : ℕ → Bool) (places more ys rest : List ℕ) → from ≤ past → past ≤ length places
    → ys ++ renew (makes_way from past has places) past (drop past places) rest ≡ take from places ++ renew (makes_way from past has places) from (drop from places) more
    → (ys ++ drop past places) ++ rest ≡ renewed from past has places more
renewed_parts from past has places more ys rest ordered within parts =
    append_assoc ys (drop past places) rest
    ∙ ap (λ xs. ys ++ xs) (sym (renew_nowhere (makes_way from past has places) past (drop past places) rest (λ j h. way_behind from past has places (past + j) (omega arith))))
    ∙ parts
    ∙ ap (λ k. take from places ++ renew (makes_way from past has places) k (drop from places) more) {x = from} {y = 0 + from} (omega arith)
    ∙ renew_behind (makes_way from past has places) 0 from places more (omega (arith, ordered, within))
    (λ j h. ap (makes_way from past has places) {x = 0 + j} {y = j} (omega arith) ∙ way_before from past has places j h)

-- The numbers of runs behind so many.

drop_blocks : (x c n : ℕ) (ys : List ℕ) → drop n (blocks_from x c ++ ys) ≡ blocks_from (x + n) (c - n) ++ drop (n - c) ys
drop_blocks x zero n ys =
    ap (λ m. drop m ys) {x = n} {y = n - zero} (omega arith) ∙ ap (λ m. blocks_from (x + n) m ++ drop (n - zero) ys) {x = zero} {y = zero - n} (omega arith)
drop_blocks x (suc c) zero ys =
    ap (λ m. blocks_from m (suc c) ++ ys) {x = x} {y = x + zero} (omega arith)
    ∙ ap (λ m. blocks_from (x + zero) m ++ ys) {x = suc c} {y = suc c - zero} (omega arith)
    ∙ ap (λ k. blocks_from (x + zero) (suc c - zero) ++ drop k ys) {x = zero} {y = zero - suc c} (omega arith)
drop_blocks x (suc c) (suc n) ys =
    drop_blocks (x + 1) c n ys
    ∙ ap (λ m. blocks_from m (c - n) ++ drop (n - c) ys) {x = x + 1 + n} {y = x + suc n} (omega arith)
    ∙ ap (λ m. blocks_from (x + suc n) m ++ drop (n - c) ys) {x = c - n} {y = suc c - suc n} (omega arith)
    ∙ ap (λ k. blocks_from (x + suc n) (suc c - suc n) ++ drop k ys) {x = n - c} {y = suc n - suc c} (omega arith)

pub behind_more : (rs : List Run) (i left : ℕ) (d : Run) → i < length rs
    → drop left (run_places (drop i rs)) ≡ blocks_from ((get_or rs i d).first + left) ((get_or rs i d).count - left) ++ drop (left - (get_or rs i d).count) (run_places (drop (i + 1) rs))
behind_more rs i left d h =
    ap (λ ss. drop left (run_places ss)) (drop_more rs i d h) ∙ drop_blocks (get_or rs i d).first (get_or rs i d).count left (run_places (drop (i + 1) rs))

pub one_block : (r : Run) (n : ℕ) → r.first ≡ n → r.count ≡ 1 → blocks_from r.first r.count ≡ n ∷ []
one_block r n first count = ap₂ blocks_from first count

-- One more run of a joined list.

pub one_begins : (n : ℕ) (t : Bool) → t ≡ false → n + 1 ≡ n + cond t 0 1
one_begins n t e = sym (ap (λ b. n + cond b 0 1) e)

pub none_begins : (n : ℕ) (t : Bool) → t ≡ true → n ≡ n + cond t 0 1
none_begins n t e = ap (λ m. m) {x = n} {y = n + 0} (omega arith) ∙ sym (ap (λ b. n + cond b 0 1) e)

pub joined_run : (old new : Joining) (x c : ℕ) (xs : List ℕ) → 0 < c → new.runs ≡ old.runs + cond (goes_on old.next x) 0 1 → new.next ≡ Some (x + c)
    → (new.runs ≤ 60 → new.kept ≡ old.kept ++ blocks_from x c) → IsJoined old xs → IsJoined new (xs ++ blocks_from x c)
joined_run old new x c xs some runs next kept is = record {
  runs = runs ∙ ap (λ o. old.runs + cond (goes_on o x) 0 1) is.next ∙ ap (λ n. n + cond (goes_on (next_number xs) x) 0 1) is.runs ∙ sym (stretches_run xs x c some);
  next = next ∙ sym (next_run xs x c some);
  kept = λ few. kept few ∙ ap (λ ys. ys ++ blocks_from x c) (is.kept (omega (arith, few, runs)));
}
