-- The bytes of a file are written piece by piece, and those of all files one after the other: so far the first ones.
use Rattle.std.proofs.Common.{◌≡◌, ◌⊎◌, inl, inr, ℕ, zero, suc, ◌+◌, ◌*◌, ◌/◌, ◌<◌, ◌≤◌, ◌==◌, Bool, true, false, true≢false, IsTrue, List, [], ◌∷◌, ◌++◌, length, map, take, take_all, drop, slice_get, Option, Some, None, Result, Ok, Err, refl, sym, ap, ◌∙◌, subst, arith, append_assoc, append-nil, if◌then◌else◌}
use Rattle.std.proofs.lemmas.Grind.{flat_map-append}
use Rattle.std.proofs.lemmas.List.{length-map}
use Rattle.std.specs.Prelude.{IfErr, OnOk, option_and_then, unwrap_or}
use Rattle.std.specs.BTreeMap as btree
use Rattle.std.specs.List.{flat_map, range_with_len}
use Rattle.std.specs.FinMap.{get}
use Rattle.std.specs.Ordering.{nat_cmp}
use Rattle.base_types.specs.declared.layout.Layout.{Layout}
use Rattle.disk_contract.specs.Disk as disk
use Rattle.layout_geometry.specs.Geometry.{Geometry}
use Rattle.lang_tree.specs.declared.command.Cmd.{Cmd}
use Rattle.lang_tree.specs.declared.command.Cmd.TheVariants.{Read, Write}
use Rattle.lang_tree.specs.Tree.{Dir, File, IsSound, Thing, Tree}
use Rattle.lang_tree.specs.Walk.{bytes_in, content, is_dir, thing_at}
use Rattle.lang_making.specs.Making.{byte_commands, first_alike, is_path, making, paths_made, pieces, writing}
use Rattle.engine_blocks.specs.State.{State}
use Rattle.cmd_upgrade.specs.declared.plan.Entry.{Entry}
use Rattle.cmd_upgrade.specs.declared.plan.Plan.{Plan}
use Rattle.cmd_upgrade.specs.declared.refusal.UpgradeRefusal.{UpgradeRefusal}
use Rattle.cmd_upgrade.specs.Looked.{HasMade, IsLookedAt, MakesOn, OfLooked, StaysLookedAt, StopsAt, StopsFor, StopsMaking}
use Rattle.cmd_upgrade.specs.Plans.{CanBeMade, IsEntry, IsWholePlan}
use Rattle.cmd_upgrade.proofs.PathLoop.{list_more, mapped_at}
use Rattle.cmd_upgrade.proofs.Seen.{WalksEnd, seen_bytes}

-- The pieces of a file.

range_at : (a n i : ℕ) → i < n → slice_get (range_with_len a n) i ≡ Some (a + i)
range_at a zero i lt = absurd (omega (arith, lt))
range_at a (suc n) zero lt = let same : a ≡ a + 0 = omega arith in ap Some same
range_at a (suc n) (suc i) lt = let same : (a + 1) + i ≡ a + suc i = omega arith in range_at (a + 1) n i (omega (arith, lt)) ∙ ap Some same

range_long : (a n : ℕ) → length (range_with_len a n) ≡ n
range_long a zero = refl
range_long a (suc n) = ap suc (range_long (a + 1) n)

piece_at : (size count : ℕ) (path : List (List ℕ)) (bytes : List ℕ) (i : ℕ) → i < count → slice_get (pieces size count path bytes) i ≡ Some (Write path (size * i) (take size (drop (size * i) bytes)))
piece_at size count path bytes i lt =
    mapped_at (λ k. Write path (size * k) (take size (drop (size * k) bytes))) (range_with_len 0 count) i (0 + i) (range_at 0 count i lt)
    ∙ ap (λ k. Some (Write path (size * k) (take size (drop (size * k) bytes)))) same
  where
    same : 0 + i ≡ i
    same = omega arith

pieces_long : (size count : ℕ) (path : List (List ℕ)) (bytes : List ℕ) → length (pieces size count path bytes) ≡ count
pieces_long size count path bytes = length-map (range_with_len 0 count) (λ k. Write path (size * k) (take size (drop (size * k) bytes))) ∙ range_long 0 count

-- no file has too many bytes
pub small_content : (g : Geometry) (t : Tree) → CanBeMade g t → (path : List (List ℕ)) → length (content t path) ≤ 1073741824
small_content g t can path = by (get t.names path) refl
  where
    of : (n : ℕ) (x : Option Thing) → get t.nodes n ≡ x → length (bytes_in x) ≤ 1073741824
    of n None e = omega arith
    of n (Some Dir) e = omega arith
    of n (Some (File bytes)) e = can.small n bytes e

    by : (o : Option ℕ) → get t.names path ≡ o → length (content t path) ≤ 1073741824
    by None e = subst (λ (o : Option ℕ). length (bytes_in (option_and_then (λ n. get t.nodes n) o)) ≤ 1073741824) (sym e) (omega arith)
    by (Some n) e = subst (λ (o : Option ℕ). length (bytes_in (option_and_then (λ n. get t.nodes n) o)) ≤ 1073741824) (sym e) (of n (get t.nodes n) refl)

-- so many pieces of the file were written
abbrev pub WritesFront : Bool → Entry → ℕ → State → State → State → Type 0
WritesFront tells e piece image old now = IsTrue tells → (first : disk.State) (g : Geometry) (t : Tree) (front back : List Cmd) → IsLookedAt first t image → CanBeMade g t → IsEntry t e
    → e.is_dir ≡ false → making t ≡ front ++ (writing e.path (content t e.path) ++ back) → HasMade g front old → HasMade g (front ++ take piece (writing e.path (content t e.path))) now

-- what is to come of the file where it ends so
abbrev pub WritesFile : Bool → Entry → State → State → State → State → Result (Unit {0}) UpgradeRefusal → Type 0
WritesFile tells e image image_now old now result = IsTrue tells → (first : disk.State) (g : Geometry) (t : Tree) (front back : List Cmd) → IsLookedAt first t image → CanBeMade g t → IsEntry t e
    → e.is_dir ≡ false → making t ≡ front ++ (writing e.path (content t e.path) ++ back) → HasMade g front old
    → OnOk result (HasMade g (front ++ writing e.path (content t e.path)) now) × IfErr result (λ why. StopsFor image_now why ⊎ StopsMaking g t now why)

pub write_none : (tells : Bool) (e : Entry) (image old : State) → WritesFront tells e 0 image old old
write_none tells e image old = λ told first g t front back looked can is file split h. subst (λ (cmds : List Cmd). HasMade g cmds old) (sym (append-nil front)) h

module _ (tells : Bool) (e : Entry) (piece : ℕ) (image mid_image old mid now : State) (stays : StaysLookedAt tells image mid_image) (so_far : WritesFront tells e piece image old mid) where
  module _ (within : piece < (e.size + 65535) / 65536) (path : List (List ℕ)) (bytes : List ℕ) (same : path ≡ e.path)
      (read : OfLooked tells mid_image (λ t. bytes ≡ take 65536 (drop (65536 * piece) (content t e.path)))) where
    stands : IsTrue tells → (first : disk.State) (t : Tree) → IsLookedAt first t image → IsEntry t e → e.is_dir ≡ false
        → slice_get (writing e.path (content t e.path)) piece ≡ Some (Write path (65536 * piece) bytes)
    stands told first t looked is file =
        piece_at 65536 ((length (content t e.path) + 65535) / 65536) e.path (content t e.path) piece (subst (λ (n : ℕ). piece < (n + 65535) / 65536) (is.size file) within)
        ∙ ap (λ xs. Some (Write e.path (65536 * piece) xs)) (sym (read told first t (stays told first t looked)))
        ∙ ap (λ p. Some (Write p (65536 * piece) bytes)) (sym same)

    pub write_more : MakesOn tells (Write path (65536 * piece) bytes ∷ []) mid now (Ok tt) → WritesFront tells e (piece + 1) image old now
    write_more asked = λ told first g t front back looked can is file split h.
        (list_more tells (writing e.path (content t e.path)) g t front back piece (Write path (65536 * piece) bytes) mid now (Ok tt) told asked can split (stands told first t looked is file)
        (so_far told first g t front back looked can is file split h)).0

    pub write_stops : (image_now : State) (why : UpgradeRefusal) → MakesOn tells (Write path (65536 * piece) bytes ∷ []) mid now (Err why) → WritesFile tells e image image_now old now (Err why)
    write_stops image_now why asked = λ told first g t front back looked can is file split h. (
      tt,
      inr (list_more tells (writing e.path (content t e.path)) g t front back piece (Write path (65536 * piece) bytes) mid now (Err why) told asked can split (stands told first t looked is file)
          (so_far told first g t front back looked can is file split h)).1,
    )

  -- the image refuses the look
  pub read_stops : (walks : WalksEnd) (offset count : ℕ) (why : UpgradeRefusal) → OfLooked tells mid_image (λ t. StopsAt t (Read e.path offset count) now why) → WritesFile tells e image now old mid (Err why)
  read_stops walks offset count why stops = λ told first g t front back looked can is file split h.
      (tt, inl (λ fault. stops told first t (stays told first t looked) fault (seen_bytes walks can.most t can.sound e.path e.number is.number offset count (sym is.dir ∙ file))))

  -- in the end all was written
  pub write_all : (e.size + 65535) / 65536 ≤ piece → WritesFile tells e image mid_image old mid (Ok tt)
  write_all all = λ told first g t front back looked can is file split h. (
    subst (λ (cmds : List Cmd). HasMade g (front ++ cmds) mid)
        (take_all piece (writing e.path (content t e.path))
        (subst (λ (n : ℕ). n ≤ piece) (sym (pieces_long 65536 ((length (content t e.path) + 65535) / 65536) e.path (content t e.path) ∙ ap (λ (n : ℕ). (n + 65535) / 65536) (sym (is.size file)))) all))
        (so_far told first g t front back looked can is file split h),
    tt,
  )

-- it has no more bytes than a file may have
pub never_large : (tells : Bool) (e : Entry) (image image_now old now : State) (why : UpgradeRefusal) → 1073741824 < e.size → WritesFile tells e image image_now old now (Err why)
never_large tells e image image_now old now why large = λ told first g t front back looked can is file split h. absurd (omega (arith, large, is.size file, small_content g t can e.path))
