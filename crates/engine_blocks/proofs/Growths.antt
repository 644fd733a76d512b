-- How what a commit would have grows.
use Rattle.std.proofs.Common.{◌≡◌, ℕ, zero, suc, ◌+◌, ◌*◌, ◌<◌, ◌≤◌, ◌==◌, min, Bool, true, false, cond, not, ◌&&◌, List, [], ◌∷◌, length, All, refl, ap, arith, ◌⊎◌, inl, inr}
use Rattle.std.proofs.lemmas.Bool.{cases_Bool}
use Rattle.std.proofs.lemmas.Bool.Decides.{nat_tests}
use Rattle.base_types.specs.declared.words.Class.{Class}
use Rattle.base_types.specs.declared.words.Class.TheVariants.{Meta, Content}
use Rattle.layout_geometry.specs.Geometry.{Geometry, bitmap_start, bitmap_blocks}
use Rattle.engine_blocks.specs.declared.role.Role.{Role}
use Rattle.engine_blocks.specs.declared.role.Role.TheVariants.{Untouched, Changed, Bare}
use Rattle.engine_blocks.specs.Running.{is_payload, is_fresh, is_taken, put_role, has, has_bit, bit_block, with_put, with_takes, count_roles, payloads, fresh_blocks, nothing_running}
use Rattle.engine_blocks.specs.State.{Bookkeeping, after_put, after_take, after_free}
use Rattle.engine_blocks.specs.Puts.{after_frees}
use Rattle.engine_blocks.specs.Ranges.{counted, fewer_from}
use Rattle.engine_blocks.proofs.Ranges.{none_from, one_from}

-- A put.

-- a test that fails at the block that was put passes no more
not_here : (g : Geometry) (test : Role → Bool) (roles : ℕ → Role) (b : ℕ) (class : Class) → test (put_role class (roles b)) ≡ false → count_roles g test (with_put roles b class) ≤ count_roles g test roles
not_here g test roles b class out = fewer_from (λ c. test (roles c)) (λ c. test (with_put roles b class c)) 0 g.n (λ k from is. grind (arith, nat_tests, out, is))

here : (g : Geometry) (test : Role → Bool) (roles : ℕ → Role) (b : ℕ) (class : Class) → count_roles g test (with_put roles b class) ≤ count_roles g test roles + 1
here g test roles b class = one_from (λ c. test (roles c)) (λ c. test (with_put roles b class c)) b 0 g.n (λ k d is. grind (arith, nat_tests, d, is))

pub fresh_grows : (k : Bookkeeping) (b : ℕ) → is_taken (k.running.roles b) ≡ true
    → 25 * payloads k.geom (after_put k b Content).running + fresh_blocks k.geom (after_put k b Content).running ≤ 25 * payloads k.geom k.running + fresh_blocks k.geom k.running + 1
fresh_grows k b taken = omega (arith, not_here k.geom is_payload k.running.roles b Content (grind (arith, taken)), here k.geom is_fresh k.running.roles b Content)

pub put_grows : (k : Bookkeeping) (b : ℕ) (class : Class) → 25 * payloads k.geom (after_put k b class).running + fresh_blocks k.geom (after_put k b class).running ≤ 25 * payloads k.geom k.running + fresh_blocks k.geom k.running + 25
put_grows k b Meta = omega (arith, here k.geom is_payload k.running.roles b Meta, not_here k.geom is_fresh k.running.roles b Meta (grind arith))
put_grows k b Content = elim (cases_Bool (is_taken (k.running.roles b))) [
  | inl e ↦ omega (arith, fresh_grows k b e)
  | inr e ↦ omega (arith, here k.geom is_payload k.running.roles b Content, not_here k.geom is_fresh k.running.roles b Content (grind (arith, e)))
]

-- A take.

-- what is a payload after a take was one, or has a bit of the list
take_payload : (t u : Bool) (r : Role) → is_payload (cond t Bare (cond u Changed r)) ≡ true → (is_payload r ≡ true) ⊎ (u ≡ true)
take_payload t u r e = grind arith

-- at most so many numbers pass as a list has, where each that passes is one of the list's or passed before
by_list : (p q : ℕ → Bool) (g : Geometry) (bs : List ℕ) (a n : ℕ) → ((k : ℕ) → q k ≡ true → (p k ≡ true) ⊎ (has_bit g bs k ≡ true)) → counted q a n ≤ counted p a n + length bs
by_list p q g [] a n less = omega (arith, fewer_from p q a n (λ k from is. grind (arith, less k is)))
by_list p q g (b ∷ bs) a n less =
    omega (arith, by_list p (λ k. q k && not (k == bit_block g b)) g bs a n (λ k is. grind (arith, less k, is)), one_from (λ k. q k && not (k == bit_block g b)) q (bit_block g b) a n (λ k d is. grind (arith, nat_tests, is, d)))

-- at most so many numbers pass as a stretch has, where each that passes lies in it or passed before
by_stretch : (p q : ℕ → Bool) (low m a n : ℕ) → ((k : ℕ) → q k ≡ true → (p k ≡ true) ⊎ ((low ≤ k) × (k < low + m))) → counted q a n ≤ counted p a n + m
by_stretch p q low zero a n less = omega (arith, fewer_from p q a n (λ k from is. grind (arith, less k)))
by_stretch p q low (suc m) a n less =
    omega (arith, by_stretch p (λ k. q k && not (k == low + m)) low m a n (λ k is. grind (arith, nat_tests, less k, is)), one_from (λ k. q k && not (k == low + m)) q (low + m) a n (λ k d is. grind (arith, nat_tests, is, d)))

-- a bit of the list is in the bitmap
bit_within : (g : Geometry) (bs : List ℕ) (c : ℕ) → All (λ b. b < g.n) bs → has_bit g bs c ≡ true → (bitmap_start g ≤ c) × (c < bitmap_start g + bitmap_blocks g)
bit_within g [] c all is = grind arith
bit_within g (b ∷ bs) c all is = grind (arith, nat_tests, all 0 0, bit_within g bs c (λ i d low. all (suc i) d (omega (arith, low))))

-- where each payload was one before, or has a bit of the list, there are at most so many more as the bitmap has blocks
grows_by_bits : (g : Geometry) (bs : List ℕ) (old new : ℕ → Role) → All (λ b. b < g.n) bs → ((c : ℕ) → is_payload (new c) ≡ true → (is_payload (old c) ≡ true) ⊎ (has_bit g bs c ≡ true)) → count_roles g is_payload new ≤ count_roles g is_payload old + bitmap_blocks g
grows_by_bits g bs old new all less = by_stretch (λ c. is_payload (old c)) (λ c. is_payload (new c)) (bitmap_start g) (bitmap_blocks g) 0 g.n (λ c is. grind (arith, less c is, bit_within g bs c all))

take_fresh : (k : Bookkeeping) (bs : List ℕ) → fresh_blocks k.geom (after_take k bs).running ≤ fresh_blocks k.geom k.running
take_fresh k bs = fewer_from (λ c. is_fresh (k.running.roles c)) (λ c. is_fresh (with_takes k.geom k.running.roles bs c)) 0 k.geom.n (λ c from is. grind (arith, is))

pub take_grows : (k : Bookkeeping) (bs : List ℕ) → All (λ b. b < k.geom.n) bs
    → 25 * payloads k.geom (after_take k bs).running + fresh_blocks k.geom (after_take k bs).running ≤ 25 * payloads k.geom k.running + fresh_blocks k.geom k.running + 25 * min (length bs) (bitmap_blocks k.geom)
take_grows k bs all =
    let more = λ (c : ℕ). take_payload (has bs c) (has_bit k.geom bs c) (k.running.roles c) in
    omega (arith, by_list (λ c. is_payload (k.running.roles c)) (λ c. is_payload ((after_take k bs).running.roles c)) k.geom bs 0 k.geom.n more, grows_by_bits k.geom bs k.running.roles (after_take k bs).running.roles all more, take_fresh k bs)

-- Frees.

frees_fresh : (k : Bookkeeping) (bs : List ℕ) (c : ℕ) → is_fresh ((after_frees k bs).running.roles c) ≡ true → is_fresh (k.running.roles c) ≡ true
frees_fresh k [] c is = is
frees_fresh k (b ∷ bs) c is = grind (arith, frees_fresh (after_free k b) bs c is)

-- what is a payload after a free was one, or has the bit
freed_payload : (t u : Bool) (r : Role) → is_payload (cond t Untouched (cond u Changed r)) ≡ true → (is_payload r ≡ true) ⊎ (u ≡ true)
freed_payload t u r e = grind arith

frees_payload : (k : Bookkeeping) (bs : List ℕ) (c : ℕ) → is_payload ((after_frees k bs).running.roles c) ≡ true → (is_payload (k.running.roles c) ≡ true) ⊎ (has_bit k.geom bs c ≡ true)
frees_payload k [] c is = inl is
frees_payload k (b ∷ bs) c is = grind (arith, frees_payload (after_free k b) bs c is, freed_payload (c == b) (c == bit_block k.geom b) (k.running.roles c))

pub frees_grow : (k : Bookkeeping) (bs : List ℕ) → All (λ b. b < k.geom.n) bs
    → 25 * payloads k.geom (after_frees k bs).running + fresh_blocks k.geom (after_frees k bs).running ≤ 25 * payloads k.geom k.running + fresh_blocks k.geom k.running + 25 * min (length bs) (bitmap_blocks k.geom)
frees_grow k bs all = omega (
  arith,
  by_list (λ c. is_payload (k.running.roles c)) (λ c. is_payload ((after_frees k bs).running.roles c)) k.geom bs 0 k.geom.n (frees_payload k bs),
  grows_by_bits k.geom bs k.running.roles (after_frees k bs).running.roles all (frees_payload k bs),
  fewer_from (λ c. is_fresh (k.running.roles c)) (λ c. is_fresh ((after_frees k bs).running.roles c)) 0 k.geom.n (λ c from. frees_fresh k bs c),
)

-- An empty transaction has nothing.

pub none_begun : (g : Geometry) → 25 * payloads g nothing_running + fresh_blocks g nothing_running ≡ 0
none_begun g = omega (arith, ap length (none_from (λ c. false) 0 g.n (λ b from below. refl)))
