-- The running transaction: what it has of each block, and how each call changes that. It is described in docs/BLOCKS.md.
use Rattle.std.specs.Prelude.{◌≡◌, ℕ, ◌+◌, ◌*◌, ◌/◌, Bool, true, false, ◌==◌, ◌||◌, if◌then◌else◌, List, [], ◌∷◌, length}
use Rattle.std.specs.List.{filter, range_with_len}
use Rattle.base_types.specs.declared.words.Class.{Class}
use Rattle.base_types.specs.declared.words.Class.TheVariants.{Meta, Content}
use Rattle.layout_geometry.specs.Geometry.{Geometry, bitmap_start}
use Rattle.layout_journal.specs.Layout.{descriptor_count}
use Rattle.engine_blocks.specs.declared.role.Role.{Role}
use Rattle.engine_blocks.specs.declared.role.Role.TheVariants.{Untouched, Changed, Bare, NewMeta, Fresh}

-- a commit writes the block into the journal
abbrev pub is_payload : Role → Bool
is_payload Untouched = false
is_payload Changed = true
is_payload Bare = false
is_payload NewMeta = true
is_payload Fresh = false

-- a commit writes the block in place
abbrev pub is_fresh : Role → Bool
is_fresh Untouched = false
is_fresh Changed = false
is_fresh Bare = false
is_fresh NewMeta = false
is_fresh Fresh = true

-- the block was taken, and neither put nor freed since
abbrev pub is_bare : Role → Bool
is_bare Untouched = false
is_bare Changed = false
is_bare Bare = true
is_bare NewMeta = false
is_bare Fresh = false

-- the block was taken, and wasn't freed since
abbrev pub is_taken : Role → Bool
is_taken Untouched = false
is_taken Changed = false
is_taken Bare = true
is_taken NewMeta = true
is_taken Fresh = true

-- a taken block into which something was put
abbrev pub filled : Class → Role
filled Meta = NewMeta
filled Content = Fresh

-- a put makes a block that was taken new metadata or fresh, by the class, and any other a payload
abbrev pub put_role : Class → Role → Role
put_role class role = if is_taken role then filled class else Changed

-- a number is among these
abbrev pub has : List ℕ → ℕ → Bool
has [] b = false
has (x ∷ xs) b = (b == x) || has xs b

-- the block of the bitmap that has the bit of block b
abbrev pub bit_block : Geometry → ℕ → ℕ
bit_block g b = bitmap_start g + b / 8192

-- a block of the bitmap has the bit of one of these
abbrev pub has_bit : Geometry → List ℕ → ℕ → Bool
has_bit g [] c = false
has_bit g (x ∷ xs) c = (c == bit_block g x) || has_bit g xs c

-- what the transaction has of each block, its weight, and how many blocks it freed and took
pub record Running : Type 0 where
  pub roles : ℕ → Role
  pub weight : ℕ
  pub held : ℕ
  pub took : ℕ

-- what `prepare` made ready: so many calls of `put` and `free`, and so many numbers to take
pub record Spare : Type 0 where
  pub puts : ℕ
  pub takes : ℕ
  pub frees : ℕ

-- a transaction in which nothing was done
abbrev pub nothing_running : Running
nothing_running = record { roles = λ b. Untouched; weight = 0; held = 0; took = 0 }

-- the roles after a put
abbrev pub with_put : (ℕ → Role) → ℕ → Class → ℕ → Role
with_put roles b class c = if c == b then put_role class (roles b) else roles c

-- the roles after these were taken: their bits are changed, so the blocks with the bits are payloads
abbrev pub with_takes : Geometry → (ℕ → Role) → List ℕ → ℕ → Role
with_takes g roles bs c = if has bs c then Bare else if has_bit g bs c then Changed else roles c

-- the roles after a block was freed: it is none of the commit's any more, and the block with its bit is a payload
abbrev pub with_free : Geometry → (ℕ → Role) → ℕ → ℕ → Role
with_free g roles b c = if c == b then Untouched else if c == bit_block g b then Changed else roles c

-- how many blocks of the disk have such a role
abbrev pub count_roles : Geometry → (Role → Bool) → (ℕ → Role) → ℕ
count_roles g test roles = length (filter (λ b. test (roles b)) (range_with_len 0 g.n))

-- how many payloads and how many fresh blocks a commit would have now
abbrev pub payloads : Geometry → Running → ℕ
payloads g r = count_roles g is_payload r.roles

abbrev pub fresh_blocks : Geometry → Running → ℕ
fresh_blocks g r = count_roles g is_fresh r.roles

-- each block that was taken was put or freed since
abbrev pub HasNoBare : Running → Type 0
HasNoBare r = (b : ℕ) → is_bare (r.roles b) ≡ false

-- the ring places of a record of m payloads and n fresh blocks: its commit block, its descriptors, which name both, and its payloads
abbrev pub record_places : ℕ → ℕ → ℕ
record_places m n = 1 + descriptor_count (m + n) + m

-- the writes that such a record stands for: each payload in the ring and at home, each fresh block, the descriptors, the commit block, and two headers
abbrev pub record_writes : ℕ → ℕ → ℕ
record_writes m n = 2 * m + n + descriptor_count (m + n) + 3
