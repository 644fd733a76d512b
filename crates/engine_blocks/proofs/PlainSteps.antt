-- What a put, a take and a free leave of the parts of a map of blocks in memory.
use Rattle.std.proofs.Common.{◌≡◌, ◌≢◌, ℕ, ◌+◌, ◌-◌, ◌/◌, ◌%◌, ◌<◌, ◌≤◌, ◌==◌, Bool, true, false, not, ◌&&◌, ◌||◌, cond, List, [], ◌∷◌, length, get_or, slice_set, slice_index, refl, sym, ap, ap₂, ◌∙◌, arith, inl, inr}
use Rattle.std.proofs.lemmas.Bool.{cases_eq, cond-true, cond-false, eq-eqb, ne_eqb, false≢true}
use Rattle.std.proofs.lemmas.List.{get_or-set_same, get_or-set_other, length-set, get_or_default}
use Rattle.std.specs.Int.{bit_at}
use Rattle.std.proofs.lemmas.Bool.Decides.{nat_tests}
use Rattle.std.proofs.lemmas.Grind.{common_steps}
use mathlib.Core.Path.{fun_ext}
use Rattle.base_types.specs.Seal.{Blocks, blocks_of}
use Rattle.base_types.specs.declared.words.Class.{Class}
use Rattle.layout_geometry.specs.Geometry.{Geometry, bitmap_start, table_start, data_start}
use Rattle.layout_bytes.specs.Bitmap.{bit_in, is_set}
use Rattle.layout_bitmap.specs.Bits.{IsFree, BitBecomes, free_blocks}
use Rattle.engine_blocks.specs.declared.role.Role.{Role}
use Rattle.engine_blocks.specs.declared.role.Role.TheVariants.{Untouched, Changed, Bare}
use Rattle.engine_blocks.specs.Running.{put_role, is_taken, has, bit_block, with_put, with_takes, with_free, count_roles}
use Rattle.engine_blocks.specs.State.{Bookkeeping, after_put, after_take, after_free}
use Rattle.engine_blocks.specs.Plain.{role_in, bits_of, marks_of, clear_in, IsWithBits}
use Rattle.engine_blocks.proofs.Members.{has_one, has_bit_one}
use Rattle.engine_blocks.specs.Ranges.{same_from, parts_from, fewer_from}
use Rattle.engine_blocks.proofs.Ranges.{one_from}

-- Roles.

-- one role is written
pub role_set : (roles : List Role) (b : ℕ) (r : Role) (c : ℕ) → b < length roles → role_in (slice_set roles b r) c ≡ cond (c == b) r (role_in roles c)
role_set roles b r c low = grind (arith, nat_tests, common_steps)

pub put_roles : (roles : List Role) (b : ℕ) (class : Class) (before : Role) → b < length roles → before ≡ get_or roles b before
    → role_in (slice_set roles b (put_role class before)) ≡ with_put (role_in roles) b class
put_roles roles b class before low read = fun_ext (λ c. role_set roles b (put_role class before) c low ∙ ap (λ r. cond (c == b) (put_role class r) (role_in roles c)) (read ∙ same))
  where
    same : get_or roles b before ≡ get_or roles b Untouched
    same = get_or_default roles b before Untouched low

two_roles : (roles : List Role) (a b : ℕ) (r : Role) (c : ℕ) → a < length roles → b < length roles → role_in (slice_set (slice_set roles a Changed) b r) c ≡ cond (c == b) r (cond (c == a) Changed (role_in roles c))
two_roles roles a b r c low_a low_b =
    role_set (slice_set roles a Changed) b r c (omega (arith, length-set roles a Changed, low_b)) ∙ ap (λ x. cond (c == b) r x) (role_set roles a Changed c low_a)

pub take_roles : (g : Geometry) (roles : List Role) (b : ℕ) → bit_block g b < length roles → b < length roles
    → role_in (slice_set (slice_set roles (bit_block g b) Changed) b Bare) ≡ with_takes g (role_in roles) (b ∷ [])
take_roles g roles b low_a low_b = fun_ext (λ c.
    two_roles roles (bit_block g b) b Bare c low_a low_b
    ∙ ap₂ (λ x y. cond x Bare (cond y Changed (role_in roles c))) (sym (has_one b c)) (sym (has_bit_one g b c)))

pub free_roles : (g : Geometry) (roles : List Role) (b : ℕ) → bit_block g b < length roles → b < length roles
    → role_in (slice_set (slice_set roles (bit_block g b) Changed) b Untouched) ≡ with_free g (role_in roles) b
free_roles g roles b low_a low_b = fun_ext (λ c. two_roles roles (bit_block g b) b Untouched c low_a low_b)

-- How many were taken.

pub put_took : (g : Geometry) (roles : ℕ → Role) (b : ℕ) (class : Class) → count_roles g is_taken (with_put roles b class) ≤ count_roles g is_taken roles
put_took g roles b class = fewer_from (λ c. is_taken (roles c)) (λ c. is_taken (with_put roles b class c)) 0 g.n (λ k from is. grind (arith, nat_tests, is))

pub take_took : (g : Geometry) (roles : ℕ → Role) (b : ℕ) → count_roles g is_taken (with_takes g roles (b ∷ [])) ≤ count_roles g is_taken roles + 1
take_took g roles b = one_from (λ c. is_taken (roles c)) (λ c. is_taken (with_takes g roles (b ∷ []) c)) b 0 g.n (λ k d is. grind (arith, nat_tests, is, d))

pub free_took : (g : Geometry) (roles : ℕ → Role) (b : ℕ) → count_roles g is_taken (with_free g roles b) ≤ count_roles g is_taken roles
free_took g roles b = fewer_from (λ c. is_taken (roles c)) (λ c. is_taken (with_free g roles b c)) 0 g.n (λ k from is. grind (arith, is))

-- Bits.

-- a block behind the bitmap has no bits
pub bit_kept : (g : Geometry) (now new : List (List ℕ)) (b : ℕ) (x : List ℕ) → new ≡ slice_set now b x → table_start g ≤ b → (k : ℕ) → k < g.n → is_set g (blocks_of new) k ≡ is_set g (blocks_of now) k
bit_kept g now new b x e from k low =
    ap (λ y. bit_at (slice_index y (k % 8192 / 8)) (k % 8) == 1)
    (ap (λ l. blocks_of l (bitmap_start g + k / 8192)) e ∙ get_or-set_other now b (bitmap_start g + k / 8192) x [] (λ h. omega (arith, h, from, low)))

pub marks_kept : (g : Geometry) (now new : List (List ℕ)) (b : ℕ) (x : List ℕ) → new ≡ slice_set now b x → table_start g ≤ b → marks_of g (blocks_of new) ≡ marks_of g (blocks_of now)
marks_kept g now new b x e from = fun_ext (λ k. grind (arith, nat_tests, bit_kept g now new b x e from k))

pub free_kept : (g : Geometry) (now new : List (List ℕ)) (b : ℕ) (x : List ℕ) → new ≡ slice_set now b x → table_start g ≤ b → length (free_blocks g (bits_of g (blocks_of new))) ≡ length (free_blocks g (bits_of g (blocks_of now)))
free_kept g now new b x e from = ap length (same_from (λ k. not (is_set g (blocks_of new) k)) (λ k. not (is_set g (blocks_of now) k)) (data_start g) (g.n - data_start g)
    (λ k low high. ap not (bit_kept g now new b x e from k (omega (arith, low, high)))))

pub whole_kept : (n : ℕ) (now new : List (List ℕ)) (b : ℕ) (x : List ℕ) → new ≡ slice_set now b x → length now ≡ n → length x ≡ 1024 → ((c : ℕ) → c < n → length (blocks_of now c) ≡ 1024) → (c : ℕ) → c < n → length (blocks_of new c) ≡ 1024
whole_kept n now new b x e size long whole c low = ap (λ l. length (blocks_of l c)) e ∙ elim (cases_eq c b) [
  | inl h ↦ ap (λ k. length (blocks_of (slice_set now b x) k)) h ∙ ap length (get_or-set_same now b x [] (omega (arith, h, low, size))) ∙ long
  | inr d ↦ ap length (get_or-set_other now b c x [] d) ∙ whole c low
]

-- the bits of one block became such
pub becomes_one : (g : Geometry) (old new : Blocks) (b : ℕ) (bit : Bool) → IsWithBits g old new (b ∷ []) bit → BitBecomes (bits_of g old) (bits_of g new) b bit
becomes_one g old new b bit w k = w.bits k ∙ ap (λ x. cond x bit (is_set g old k)) (has_one b k)

pub take_marks : (g : Geometry) (old new : Blocks) (b : ℕ) → b < g.n → IsWithBits g old new (b ∷ []) true → marks_of g new ≡ (λ k. has (b ∷ []) k || marks_of g old k)
take_marks g old new b low w = fun_ext (λ k. grind (arith, nat_tests, w.bits k, low))

pub free_marks : (g : Geometry) (old new : Blocks) (b : ℕ) → b < g.n → IsWithBits g old new (b ∷ []) false → marks_of g new ≡ (λ k. cond (k == b) false (marks_of g old k))
free_marks g old new b low w = fun_ext (λ k. grind (arith, nat_tests, w.bits k, low))

pub take_reusable : (old new : Blocks) (b : ℕ) → BitBecomes old new b true → clear_in new ≡ (λ k. not (has (b ∷ []) k) && clear_in old k)
take_reusable old new b w = fun_ext (λ k. grind (arith, w k))

-- what held of equal lists
pub becomes_along : (old new old' new' : List (List ℕ)) (b : ℕ) (bit : Bool) → old' ≡ old → new' ≡ new → BitBecomes (blocks_of old) (blocks_of new) b bit → BitBecomes (blocks_of old') (blocks_of new') b bit
becomes_along old new old' new' b bit e f w k = ap (λ l. bit_in (blocks_of l) k) f ∙ w k ∙ ap (λ l. cond (k == b) bit (bit_in (blocks_of l) k)) (sym e)

pub bit_here : (old new : Blocks) (b : ℕ) (bit : Bool) → BitBecomes old new b bit → bit_in new b ≡ bit
bit_here old new b bit w = w b ∙ cond-true (b == b) bit (bit_in old b) (eq-eqb b b refl)

bit_elsewhere : (old new : Blocks) (b : ℕ) (bit : Bool) → BitBecomes old new b bit → (k : ℕ) → k ≢ b → bit_in new k ≡ bit_in old k
bit_elsewhere old new b bit w k d = w k ∙ cond-false (k == b) bit (bit_in old k) (ne_eqb k b d)

-- what may be taken isn't marked, after a block was taken
pub take_unmarked : (g : Geometry) (bits bits' busy busy' : Blocks) (b : ℕ) → BitBecomes busy busy' b true → BitBecomes bits bits' b true → ((k : ℕ) → IsFree g busy k → bit_in bits k ≡ false)
    → (k : ℕ) → IsFree g busy' k → bit_in bits' k ≡ false
take_unmarked g bits bits' busy busy' b w v unmarked k free = elim (cases_eq k b) [
  | inl e ↦ absurd (false≢true (sym free.clear ∙ ap (bit_in busy') e ∙ bit_here busy busy' b true w))
  | inr d ↦ bit_elsewhere bits bits' b true v k d ∙ unmarked k (record { from = free.from; below = free.below; clear = sym (bit_elsewhere busy busy' b true w k d) ∙ free.clear })
]

-- and after one was freed
pub free_unmarked : (g : Geometry) (bits bits' busy : Blocks) (b : ℕ) → BitBecomes bits bits' b false → ((k : ℕ) → IsFree g busy k → bit_in bits k ≡ false) → (k : ℕ) → IsFree g busy k → bit_in bits' k ≡ false
free_unmarked g bits bits' busy b v unmarked k free = elim (cases_eq k b) [
  | inl e ↦ ap (bit_in bits') e ∙ bit_here bits bits' b false v
  | inr d ↦ bit_elsewhere bits bits' b false v k d ∙ unmarked k free
]

-- a block that is marked is one of the live ones
pub some_live : (g : Geometry) (bits bits' : Blocks) (live : ℕ) → live + length (free_blocks g bits) ≡ g.n - data_start g → length (free_blocks g bits') ≡ length (free_blocks g bits) + 1 → 1 ≤ live
some_live g bits bits' live h one = omega (arith, h, one, parts_from (λ k. not (bit_in bits' k)) (data_start g) (g.n - data_start g))

-- The bookkeeping.

pub put_books : (k : Bookkeeping) (roles : ℕ → Role) (marked : ℕ → Bool) (point b : ℕ) (class : Class) → roles ≡ with_put k.running.roles b class → marked ≡ k.marked → point ≡ k.point
    → record k { running = record k.running { roles = roles }; spare = record k.spare { puts = k.spare.puts - 1 }; marked = marked; point = point } ≡ after_put k b class
put_books k roles marked point b class r m q =
    ap₂ (λ x y. record k { running = record k.running { roles = x }; spare = record k.spare { puts = k.spare.puts - 1 }; marked = y; point = point }) r m
    ∙ ap (λ z. record k { running = record k.running { roles = with_put k.running.roles b class }; spare = record k.spare { puts = k.spare.puts - 1 }; point = z }) q

pub take_books : (k : Bookkeeping) (roles : ℕ → Role) (marked reusable : ℕ → Bool) (point b : ℕ) → roles ≡ with_takes k.geom k.running.roles (b ∷ []) → marked ≡ (λ c. has (b ∷ []) c || k.marked c)
    → reusable ≡ (λ c. not (has (b ∷ []) c) && k.reusable c) → point ≡ k.point
    → record k { running = record k.running { roles = roles; took = k.running.took + 1 }; spare = record k.spare { takes = k.spare.takes - 1 }; marked = marked; reusable = reusable; point = point } ≡ after_take k (b ∷ [])
take_books k roles marked reusable point b r m u q =
    ap₂ (λ x y. record k { running = record k.running { roles = x; took = k.running.took + 1 }; spare = record k.spare { takes = k.spare.takes - 1 }; marked = y; reusable = reusable; point = point }) r m
    ∙ ap₂ (λ z w. record k { running = record k.running { roles = with_takes k.geom k.running.roles (b ∷ []); took = k.running.took + 1 }; spare = record k.spare { takes = k.spare.takes - 1 }; marked = λ c. has (b ∷ []) c || k.marked c; reusable = z; point = w }) u q

pub free_books : (k : Bookkeeping) (roles : ℕ → Role) (marked : ℕ → Bool) (point b : ℕ) → k.marked b ≡ true → roles ≡ with_free k.geom k.running.roles b → marked ≡ (λ c. cond (c == b) false (k.marked c)) → point ≡ k.point
    → record k { running = record k.running { roles = roles; held = k.running.held + 1 }; spare = record k.spare { frees = k.spare.frees - 1 }; marked = marked; point = point } ≡ after_free k b
free_books k roles marked point b is r m q =
    ap₂ (λ x y. record k { running = record k.running { roles = x; held = k.running.held + 1 }; spare = record k.spare { frees = k.spare.frees - 1 }; marked = y; point = point }) r m
    ∙ ap₂ (λ h z. record k { running = record k.running { roles = with_free k.geom k.running.roles b; held = k.running.held + h }; spare = record k.spare { frees = k.spare.frees - 1 }; marked = λ c. cond (c == b) false (k.marked c); point = z }) (sym (ap (λ x. cond x 1 0) is)) q
