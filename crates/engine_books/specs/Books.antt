-- The books of a running transaction, and what a map of blocks knows by them. It is described in docs/BOOKS.md.
use Rattle.std.specs.Prelude.{ℕ, ◌-◌, ◌*◌, Bool, is_some, nat_lt, ◌&&◌, if◌then◌else◌, List, [], length}
use Rattle.base_types.specs.Seal.{Blocks, blocks_of}
use Rattle.base_types.specs.declared.words.Class.{Class}
use Rattle.base_types.specs.declared.words.Class.TheVariants.{Meta, Content}
use Rattle.layout_geometry.specs.Geometry.{Geometry, data_start}
use Rattle.layout_bytes.specs.Bitmap.{bit_in}
use Rattle.layout_journal.specs.Run.{otherwise}
use Rattle.crash_argument.specs.HomeTest.{is_one_of}
use Rattle.engine_running.specs.declared.put.Put.{Put}
use Rattle.engine_running.specs.declared.put.Class as tx
use Rattle.engine_running.specs.declared.put.Class.TheVariants as tx_class
use Rattle.engine_running.specs.Rows.{put_of}
use Rattle.engine_running.specs.Running.{Changes, bytes_put}
use Rattle.engine_reuse.specs.Numbers.{is_among}
use Rattle.engine_reuse.specs.Dead.{DeadBlocks}
use Rattle.engine_blocks.specs.declared.role.Role.{Role}
use Rattle.engine_blocks.specs.declared.role.Role.TheVariants.{Untouched, Changed, Bare, NewMeta, Fresh}
use Rattle.engine_blocks.specs.Running.{Running, Spare, is_bare}
use Rattle.engine_blocks.specs.State.{Bookkeeping, defined_by}

-- The bitmap's blocks as they are now, what the transaction put, took and freed, the dead data blocks, the transaction's weight, how many blocks it took, how many data blocks are live, and what was made ready.
pub record TransactionBooks : Type 0 where
  pub geom : Geometry
  pub bitmap : List (List ℕ)
  pub changes : Changes
  pub dead : DeadBlocks
  pub weight : ℕ
  pub took : ℕ
  pub live : ℕ
  pub spare : Spare

-- the bit of block b is set now
abbrev pub bit_now : TransactionBooks → ℕ → Bool
bit_now v b = bit_in (blocks_of v.bitmap) b

-- one of the puts is of block b
abbrev pub has_put : ℕ → List Put → Bool
has_put b puts = is_some (put_of b puts)

-- the transaction took block b and didn't free it since: its bit is still set
abbrev pub is_taken_now : TransactionBooks → ℕ → Bool
is_taken_now v b = is_one_of b v.changes.taken && bit_now v b

-- the class of a put as the running transaction is to have it: content of a block whose bit is clear was taken and freed since, or never taken, and isn't to be written in place
abbrev pub class_for : Bool → Class → tx.Class
class_for marked Meta = tx_class.Meta
class_for marked Content = if marked then tx_class.Content else tx_class.Meta

-- the role of a block, by whether it is written in place, goes into the journal, and was taken and not freed since
abbrev pub role_by : Bool → Bool → Bool → Role
role_by laid paid taken = if laid then Fresh else if paid then (if taken then NewMeta else Changed) else if taken then Bare else Untouched

abbrev pub roles_of : TransactionBooks → ℕ → Role
roles_of v b = role_by (has_put b v.changes.laid) (has_put b v.changes.paid) (is_taken_now v b)

-- the running transaction as maps of blocks have it
abbrev pub running_of : TransactionBooks → Running
running_of v = record { roles = roles_of v; weight = v.weight; held = length v.dead.held; took = v.took }

-- a block of the disk is marked where its bit is set
abbrev pub is_marked : TransactionBooks → ℕ → Bool
is_marked v b = nat_lt b v.geom.n && bit_now v b

-- block b may be taken
abbrev pub is_free_now : TransactionBooks → ℕ → Bool
is_free_now v b = is_among b v.dead.reusable

-- the bookkeeping k, with all that these books have of it
abbrev pub with_books : Bookkeeping → TransactionBooks → Bookkeeping
with_books k v = record k {
  geom = v.geom;
  running = running_of v;
  spare = v.spare;
  marked = is_marked v;
  reusable = is_free_now v;
  waiting = length v.dead.waiting;
  area = v.geom.n - data_start v.geom;
  room = 24 * (v.geom.j - 2);
}

-- the bytes that the transaction put for a block, and those of the last sync point where it put none
abbrev pub bytes_over : Changes → Blocks → Blocks
bytes_over c last b = otherwise (bytes_put c b) (last b)

-- the map of blocks now, where the last sync point had this one
abbrev pub map_of : TransactionBooks → Blocks → Blocks
map_of v last b = if defined_by v.geom (is_marked v b) (is_bare (roles_of v b)) b then bytes_over v.changes last b else []
