-- The files of a plan get their bytes one after the other, each one at the first of its paths: so far those of the first paths.
use Rattle.std.proofs.Common.{◌≡◌, ◌⊎◌, inl, inr, ℕ, zero, suc, ◌+◌, ◌*◌, ◌/◌, ◌<◌, ◌≤◌, ◌==◌, Bool, true, false, true≢false, IsTrue, List, [], ◌∷◌, ◌++◌, length, map, take, take_all, drop, slice_get, Option, Some, None, Result, Ok, Err, refl, sym, ap, ◌∙◌, subst, arith, append_assoc, append-nil, if◌then◌else◌, eq-eqb, eqb-true, unwrap_or}
use Rattle.std.proofs.lemmas.Grind.{flat_map-append}
use Rattle.std.specs.Prelude.{IfErr, OnOk}
use Rattle.std.specs.BTreeMap as btree
use Rattle.std.specs.List.{flat_map}
use Rattle.std.specs.Ordering.{nat_cmp}
use Rattle.base_types.specs.declared.layout.Layout.{Layout}
use Rattle.disk_contract.specs.Disk as disk
use Rattle.layout_geometry.specs.Geometry.{Geometry}
use Rattle.lang_tree.specs.declared.command.Cmd.{Cmd}
use Rattle.lang_tree.specs.Tree.{Dir, File, IsSound, Thing, Tree}
use Rattle.lang_tree.specs.Walk.{bytes_in, content, is_dir, thing_at}
use Rattle.lang_making.specs.Making.{byte_commands, first_alike, is_path, making, paths_made, pieces, writing}
use Rattle.engine_blocks.specs.State.{State}
use Rattle.cmd_upgrade.specs.declared.plan.Entry.{Entry}
use Rattle.cmd_upgrade.specs.declared.plan.Plan.{Plan}
use Rattle.cmd_upgrade.specs.declared.refusal.UpgradeRefusal.{UpgradeRefusal}
use Rattle.cmd_upgrade.specs.Looked.{HasMade, IsLookedAt, MakesOn, RaisesBy, StaysLookedAt, StaysOnDisk, StopsFor, StopsMaking}
use Rattle.cmd_upgrade.specs.Plans.{CanBeMade, IsEntry, IsWholePlan, is_written_at}
use Rattle.cmd_upgrade.proofs.Keeping.{stays_on}
use Rattle.cmd_upgrade.proofs.FileLoop.{WritesFile}
use Rattle.cmd_upgrade.proofs.PathLoop.{all_paths, as_many, split_at, take_one}
use Rattle.cmd_upgrade.proofs.Whole.{IsMadeOnce, at_place, entry_at, is_first_path, is_later_path}

-- the commands for the bytes of these paths
abbrev pub bytes_of : Tree → List (List (List ℕ)) → List Cmd
bytes_of t paths = flat_map (byte_commands t (paths_made t.names)) paths

-- those of the first paths were done
abbrev pub FillsFront : Bool → Plan → ℕ → State → State → State → Type 0
FillsFront tells p place image old now = IsTrue tells → (first : disk.State) (t : Tree) (g : Geometry) → IsLookedAt first t image → CanBeMade g t → IsWholePlan g.layout t p → HasMade g [] old
    → HasMade g (all_paths t ++ bytes_of t (take place (paths_made t.names))) now

-- The files of the first paths have their bytes, and each disk is the same one.
pub record FillsUpTo (tells : Bool) (p : Plan) (place : ℕ) (image image_now old now : State) : Type 0 where
  pub upto : place ≤ length p.entries.items
  pub raises : RaisesBy (16384 * place) image image_now
  pub keeps : StaysOnDisk tells image image_now
  pub keeps_new : StaysOnDisk tells old now
  pub stays : StaysLookedAt tells image image_now
  pub fills : FillsFront tells p place image old now

-- what is to come of a filling that stops
abbrev pub StopsFilling : Bool → Plan → State → State → State → State → UpgradeRefusal → Type 0
StopsFilling tells p image image_now old now why = IsTrue tells → (first : disk.State) (t : Tree) (g : Geometry) → IsLookedAt first t image → CanBeMade g t → IsWholePlan g.layout t p → HasMade g [] old
    → StopsFor image_now why ⊎ StopsMaking g t now why

-- what the making of all paths says
abbrev pub MakesPaths : Bool → Plan → State → State → Result (Unit {0}) UpgradeRefusal → Type 0
MakesPaths tells p old now result = (limit : ℕ) (t : Tree) (l : Layout) → IsSound limit t → IsWholePlan l t p → MakesOn tells (all_paths t) old now result

pub fill_none : (tells : Bool) (p : Plan) (image old now : State) → MakesPaths tells p old now (Ok tt) → FillsFront tells p 0 image old now
fill_none tells p image old now paths = λ told first t g looked can whole h.
    subst (λ (cmds : List Cmd). HasMade g cmds now) (sym (append-nil (all_paths t))) (paths can.most t g.layout can.sound whole told g t [] (bytes_of t (paths_made t.names)) can refl h).0

pub paths_stop : (tells : Bool) (p : Plan) (image old now : State) (why : UpgradeRefusal) → MakesPaths tells p old now (Err why) → StopsFilling tells p image image old now why
paths_stop tells p image old now why paths = λ told first t g looked can whole h.
    inr ((paths can.most t g.layout can.sound whole told g t [] (bytes_of t (paths_made t.names)) can refl h).1)

-- The bytes at one path.

bytes_split : (t : Tree) (place : ℕ) (path : List (List ℕ)) → slice_get (paths_made t.names) place ≡ Some path
    → bytes_of t (paths_made t.names) ≡ bytes_of t (take place (paths_made t.names)) ++ (byte_commands t (paths_made t.names) path ++ bytes_of t (drop (suc place) (paths_made t.names)))
bytes_split t place path at =
    ap (bytes_of t) (split_at (paths_made t.names) place path at)
    ∙ flat_map-append (byte_commands t (paths_made t.names)) (take place (paths_made t.names)) (path ∷ drop (suc place) (paths_made t.names))

bytes_more : (t : Tree) (place : ℕ) (path : List (List ℕ)) → slice_get (paths_made t.names) place ≡ Some path
    → bytes_of t (take (place + 1) (paths_made t.names)) ≡ bytes_of t (take place (paths_made t.names)) ++ byte_commands t (paths_made t.names) path
bytes_more t place path at =
    let next : place + 1 ≡ suc place = omega arith in
    ap (λ n. bytes_of t (take n (paths_made t.names))) next ∙ ap (bytes_of t) (take_one (paths_made t.names) place path at)
    ∙ flat_map-append (byte_commands t (paths_made t.names)) (take place (paths_made t.names)) (path ∷ [])
    ∙ ap (λ xs. bytes_of t (take place (paths_made t.names)) ++ xs) (append-nil (byte_commands t (paths_made t.names) path))

no_pieces : (n : ℕ) (path : List (List ℕ)) → n ≡ 0 → pieces 65536 n path [] ≡ []
no_pieces n path e = ap (λ (k : ℕ). pieces 65536 k path []) e

nothing_written : (path : List (List ℕ)) → writing path [] ≡ []
nothing_written path = no_pieces ((0 + 65535) / 65536) path (omega arith)

-- a directory has no bytes
no_bytes : (x : Option Thing) → is_dir x ≡ true → bytes_in x ≡ []
no_bytes None e = refl
no_bytes (Some Dir) e = refl
no_bytes (Some (File bytes)) e = absurd (true≢false (sym e))

module _ (once : IsMadeOnce) (tells : Bool) (p : Plan) (place : ℕ) (e : Entry) (there : slice_get p.entries.items place ≡ Some e) (image image_mid old mid : State) (stays : StaysLookedAt tells image image_mid)
    (so_far : FillsFront tells p place image old mid) where
  -- nothing is to be written at the path
  fill_skips : (e.is_dir ≡ true) ⊎ (unwrap_or (btree.get nat_cmp p.firsts e.number) place ≡ place → ⊥) → FillsFront tells p (place + 1) image old mid
  fill_skips why = λ told first t g looked can whole h.
      let at = at_place once can.most t can.sound g.layout p whole place e there in
      subst (λ (cmds : List Cmd). HasMade g (all_paths t ++ cmds) mid)
      (sym (bytes_more t place e.path at ∙ ap (λ xs. bytes_of t (take place (paths_made t.names)) ++ xs) (none t g can whole why) ∙ append-nil (bytes_of t (take place (paths_made t.names)))))
      (so_far told first t g looked can whole h)
    where
      none : (t : Tree) (g : Geometry) → CanBeMade g t → IsWholePlan g.layout t p → (e.is_dir ≡ true) ⊎ (unwrap_or (btree.get nat_cmp p.firsts e.number) place ≡ place → ⊥)
          → byte_commands t (paths_made t.names) e.path ≡ []
      none t g can whole (inl dir) =
          let is = entry_at t p.entries.items whole.each place e there in
          let empty : writing e.path (content t e.path) ≡ [] = ap (writing e.path) (no_bytes (thing_at t e.path) (sym is.dir ∙ dir)) ∙ nothing_written e.path in
          by (is_path e.path (first_alike t (paths_made t.names) e.path)) empty
        where
          by : (b : Bool) → writing e.path (content t e.path) ≡ [] → (if b then writing e.path (content t e.path) else []) ≡ []
          by true empty = empty
          by false empty = refl
      none t g can whole (inr other) =
          ap (λ (b : Bool). if b then writing e.path (content t e.path) else []) (is_later_path once can.most t can.sound g.layout p whole place e there other)

  module _ (file : e.is_dir ≡ false) (one : unwrap_or (btree.get nat_cmp p.firsts e.number) place ≡ place) (image_now now : State) where
    -- the file at the path is written
    module _ (told : IsTrue tells) (first : disk.State) (t : Tree) (g : Geometry) (looked : IsLookedAt first t image) (can : CanBeMade g t) (whole : IsWholePlan g.layout t p) where
      at : slice_get (paths_made t.names) place ≡ Some e.path
      at = at_place once can.most t can.sound g.layout p whole place e there

      its_bytes : byte_commands t (paths_made t.names) e.path ≡ writing e.path (content t e.path)
      its_bytes = ap (λ (b : Bool). if b then writing e.path (content t e.path) else []) (is_first_path once can.most t can.sound g.layout p whole place e there one)

      abbrev front : List Cmd
      front = all_paths t ++ bytes_of t (take place (paths_made t.names))

      splits : making t ≡ front ++ (writing e.path (content t e.path) ++ bytes_of t (drop (suc place) (paths_made t.names)))
      splits =
          ap (λ xs. all_paths t ++ xs) (bytes_split t place e.path at ∙ ap (λ xs. bytes_of t (take place (paths_made t.names)) ++ (xs ++ bytes_of t (drop (suc place) (paths_made t.names)))) its_bytes)
          ∙ sym (append_assoc (all_paths t) (bytes_of t (take place (paths_made t.names))) (writing e.path (content t e.path) ++ bytes_of t (drop (suc place) (paths_made t.names))))

      joins : front ++ writing e.path (content t e.path) ≡ all_paths t ++ bytes_of t (take (place + 1) (paths_made t.names))
      joins =
          append_assoc (all_paths t) (bytes_of t (take place (paths_made t.names))) (writing e.path (content t e.path))
          ∙ ap (λ xs. all_paths t ++ xs) (sym (bytes_more t place e.path at ∙ ap (λ xs. bytes_of t (take place (paths_made t.names)) ++ xs) its_bytes))

      wrote : (result : Result (Unit {0}) UpgradeRefusal) → WritesFile tells e image_mid image_now mid now result → HasMade g [] old
          → OnOk result (HasMade g (front ++ writing e.path (content t e.path)) now) × IfErr result (λ why. StopsFor image_now why ⊎ StopsMaking g t now why)
      wrote result writes h =
          writes told first g t front (bytes_of t (drop (suc place) (paths_made t.names))) (stays told first t looked) can (entry_at t p.entries.items whole.each place e there) file splits (so_far told first t g looked can whole h)

    fill_more : WritesFile tells e image_mid image_now mid now (Ok tt) → FillsFront tells p (place + 1) image old now
    fill_more writes = λ told first t g looked can whole h.
        subst (λ (cmds : List Cmd). HasMade g cmds now) (joins told first t g looked can whole) (wrote told first t g looked can whole (Ok tt) writes h).0

    file_stops : (why : UpgradeRefusal) → WritesFile tells e image_mid image_now mid now (Err why) → StopsFilling tells p image image_now old now why
    file_stops why writes = λ told first t g looked can whole h. (wrote told first t g looked can whole (Err why) writes h).1

-- whether it is written, by its parts
is_written : (dir : Bool) (m n : ℕ) → (if dir then false else m == n) ≡ true → (dir ≡ false) × (m ≡ n)
is_written true m n e = absurd (true≢false (sym e))
is_written false m n e = (refl, eqb-true m n e)

isnt_written : (dir : Bool) (m n : ℕ) → (if dir then false else m == n) ≡ false → (dir ≡ true) ⊎ (m ≡ n → ⊥)
isnt_written true m n e = inl refl
isnt_written false m n e = inr (λ same. true≢false (sym (eq-eqb m n same) ∙ e))

module _ (once : IsMadeOnce) (tells : Bool) (p : Plan) (place : ℕ) (e : Entry) (within : place < length p.entries.items) (there : slice_get p.entries.items place ≡ Some e) (image image_mid old mid : State)
    (before : FillsUpTo tells p place image image_mid old mid) where
  -- one path more, at which nothing is written
  pub one_skipped : is_written_at p.firsts place e ≡ false → FillsUpTo tells p (place + 1) image image_mid old mid
  one_skipped none = record {
    upto = omega (arith, within);
    raises = omega (arith, before.raises);
    keeps = before.keeps;
    keeps_new = before.keeps_new;
    stays = before.stays;
    fills = fill_skips once tells p place e there image image_mid old mid before.stays before.fills (isnt_written e.is_dir (unwrap_or (btree.get nat_cmp p.firsts e.number) place) place none);
  }

  module _ (is : is_written_at p.firsts place e ≡ true) (image_now now : State) where
    -- and one at which the file is
    pub one_filled : RaisesBy 16384 image_mid image_now → StaysOnDisk tells image_mid image_now → StaysOnDisk tells mid now → StaysLookedAt tells image_mid image_now → WritesFile tells e image_mid image_now mid now (Ok tt)
        → FillsUpTo tells p (place + 1) image image_now old now
    one_filled raises keeps keeps_new stays writes = record {
      upto = omega (arith, within);
      raises = omega (arith, before.raises, raises);
      keeps = stays_on tells image image_mid image_now before.keeps keeps;
      keeps_new = stays_on tells old mid now before.keeps_new keeps_new;
      stays = λ told first t looked. stays told first t (before.stays told first t looked);
      fills = let w = is_written e.is_dir (unwrap_or (btree.get nat_cmp p.firsts e.number) place) place is in fill_more once tells p place e there image image_mid old mid before.stays before.fills w.0 w.1 image_now now writes;
    }

    pub one_stops : (why : UpgradeRefusal) → WritesFile tells e image_mid image_now mid now (Err why) → StopsFilling tells p image image_now old now why
    one_stops why writes = let w = is_written e.is_dir (unwrap_or (btree.get nat_cmp p.firsts e.number) place) place is in file_stops once tells p place e there image image_mid old mid before.stays before.fills w.0 w.1 image_now now why writes

-- in the end all was done that makes the tree
pub fill_all : (tells : Bool) (p : Plan) (place : ℕ) (image old now : State) → FillsFront tells p place image old now → length p.entries.items ≤ place → IsTrue tells → (first : disk.State) (t : Tree) (g : Geometry)
    → IsLookedAt first t image → CanBeMade g t → IsWholePlan g.layout t p → HasMade g [] old → HasMade g (making t) now
fill_all tells p place image old now so_far all told first t g looked can whole h =
    subst (λ (paths : List (List (List ℕ))). HasMade g (all_paths t ++ bytes_of t paths) now) (take_all place (paths_made t.names) (omega (arith, all, as_many g.layout t p whole)))
    (so_far told first t g looked can whole h)

-- where the sync is refused, that is a refusal of the new disk
pub durable_or : (P : Type 0) (g : Geometry) (t : Tree) (result : Result (Unit {0}) UpgradeRefusal) (image now : State) → OnOk result P × IfErr result (StopsMaking g t now)
    → OnOk result P × IfErr result (λ why. StopsFor image why ⊎ StopsMaking g t now why)
durable_or P g t (Ok x) image now h = (h.0, tt)
durable_or P g t (Err why) image now h = (tt, inr h.1)
