-- The names of a directory's slots in their order, and what a stat answers, from inodes.
use Rattle.std.specs.Prelude.{ℕ, ◌*◌, List, map, length, Option, None, Some}
use Rattle.std.specs.Ordering.{nat_cmp}
use Rattle.std.specs.Cmp.Lexicographic.{slice_cmp}
use Rattle.std.specs.FinMap.{FinMap, from_entries, keys}
use Rattle.layout_bytes.specs.declared.slot.Slot.{Slot}
use Rattle.lang_tree.specs.declared.command.Kind.TheVariants.{Dir as DirKind, File as FileKind}
use Rattle.lang_tree.specs.declared.command.Reply.{Reply}
use Rattle.lang_tree.specs.declared.command.Reply.TheVariants.{Stat as StatReply, Refused}
use Rattle.lang_tree.specs.declared.command.Refusal.TheVariants.{NotFound}
use Rattle.crash_stands.specs.Inodes.{Inode, Inodes, ADir, AFile}
use Rattle.fs_inodes.specs.Lookups.{number_at}

-- from the names of slots to the numbers that they stand for
abbrev pub row_in : List Slot → FinMap (slice_cmp nat_cmp) ℕ
row_in slots = from_entries (map (λ s. (s.name, s.node)) slots)

-- the names of slots, ascending by their bytes
abbrev pub names_of : List Slot → List (List ℕ)
names_of slots = keys (row_in slots)

abbrev pub stat_by : ℕ → Option Inode → Reply
stat_by n None = Refused NotFound
stat_by n (Some (ADir slots)) = StatReply (record { kind = DirKind; number = n; size = 64 * length slots; links = 1 })
stat_by n (Some (AFile links bytes)) = StatReply (record { kind = FileKind; number = n; size = length bytes; links = links })

abbrev pub stat_at : Inodes → Option ℕ → Reply
stat_at m None = Refused NotFound
stat_at m (Some n) = stat_by n (m n)

-- kind, number, size and links of what is at the path
abbrev pub stat_in : Inodes → List (List ℕ) → Reply
stat_in m path = stat_at m (number_at m path)
