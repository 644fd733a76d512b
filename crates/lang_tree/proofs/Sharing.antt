-- Where no snapshot keeps a block of a file, the figures are those of a tree without snapshots.
use Rattle.std.proofs.Common.{◌≡◌, ℕ, suc, ◌+◌, ◌-◌, ◌*◌, min, max, Bool, true, false, not, ◌&&◌, ◌==◌, nat_lt, ◌<◌, List, [], ◌∷◌, length, if◌then◌else◌, Option, None, Some, refl, sym, ap, ap₂, ◌∙◌, arith}
use Rattle.std.specs.List.{filter, range_with_len}
use Rattle.std.specs.FinMap.{get}
use Rattle.std.proofs.lemmas.Bool.{lt-ltb}
use Rattle.std.proofs.lemmas.List.FromFn.{length-range_with_len}
use Rattle.lang_tree.specs.declared.command.Cmd.{Cmd}
use Rattle.lang_tree.specs.declared.command.Cmd.TheVariants as cmds
use Rattle.lang_tree.specs.declared.command.Refusal.{Refusal}
use Rattle.base_types.specs.declared.layout.Layout.{Layout}
use Rattle.lang_tree.specs.Tree.{Tree, Bounds}
use Rattle.lang_tree.specs.Figures.{Figures, blocks_for, touches, blocks_met, kept_blocks, nothing, moving, growth, release, siblings, are_in_one, writing, shrinking, removing, figures_by, accepted_figures, move_figures, write_figures, truncate_figures, blocks_gone}
use Rattle.lang_tree.specs.Walk.{content, links, is_there, is_same_node}
use Rattle.lang_tree.specs.Sharing.{BlocksAlone, SharedNodes, none_shared, none_alone, is_renewed, shared_met, alone_from, writing_over, cutting, shared_at, alone_gone, write_over_figures, truncate_over_figures, move_over_figures, accepted_over, figures_over_by}

none_left : (lo hi : ℕ) (is : List ℕ) → filter (is_renewed none_shared lo hi) is ≡ []
none_left lo hi [] = refl
none_left lo hi (i ∷ is) = by (touches lo hi i) (none_left lo hi is)
  where
    by : (t : Bool) → filter (is_renewed none_shared lo hi) is ≡ [] → (if t && false then i ∷ filter (is_renewed none_shared lo hi) is else filter (is_renewed none_shared lo hi) is) ≡ []
    by true rest = rest
    by false rest = rest

none_met : (size lo hi : ℕ) → shared_met none_shared size lo hi ≡ 0
none_met size lo hi = ap length (none_left lo hi (range_with_len 0 (blocks_for size)))

-- the figures of a write of which so many old blocks are shared
abbrev with_met : ℕ → ℕ → ℕ → ℕ → ℕ → Figures
with_met bitmap size lo hi s =
    let taken = s + (blocks_for (max size hi) - blocks_for size) in
    record { need = taken; cost = 25 * (blocks_met size lo hi - s + (1 + min taken bitmap)) + taken; freed = 0 }

with_none : (bitmap met grown : ℕ) → ◌≡◌ {A = Figures} (record { need = 0 + grown; cost = 25 * (met - 0 + (1 + min (0 + grown) bitmap)) + (0 + grown); freed = 0 })
    (record { need = grown; cost = 25 * (met + (1 + min grown bitmap)) + grown; freed = 0 })
with_none bitmap met grown =
    ap (λ n. record { need = n; cost = 25 * (met - 0 + (1 + min n bitmap)) + n; freed = 0 }) {x = 0 + grown} {y = grown} (omega arith)
    ∙ ap (λ a. record { need = grown; cost = 25 * (a + (1 + min grown bitmap)) + grown; freed = 0 }) {x = met - 0} {y = met} (omega arith)

pub writes_as_before : (bitmap size lo hi : ℕ) → writing_over bitmap none_shared size lo hi ≡ writing bitmap size lo hi
writes_as_before bitmap size lo hi =
    ap (with_met bitmap size lo hi) (none_met size lo hi)
    ∙ with_none bitmap (blocks_met size lo hi) (blocks_for (max size hi) - blocks_for size)

all_left : (is : List ℕ) → length (filter (λ i. not (none_shared i)) is) ≡ length is
all_left [] = refl
all_left (i ∷ is) = ap suc (all_left is)

pub all_alone : (from count : ℕ) → alone_from none_shared from count ≡ count
all_alone from count = all_left (range_with_len from count) ∙ length-range_with_len from count

pub cuts_as_before : (bitmap old new : ℕ) → cutting bitmap none_shared (blocks_for old) (blocks_for new) ≡ shrinking bitmap (blocks_for old - blocks_for new)
cuts_as_before bitmap old new = ap (shrinking bitmap) (all_alone (blocks_for new) (blocks_for old - blocks_for new))

-- The commands, one by one.

abbrev none_at_all : SharedNodes
none_at_all k = none_shared

at_none : (n : Option ℕ) → shared_at none_at_all n ≡ none_shared
at_none None = refl
at_none (Some n) = refl

gone_as_before : (t : Tree) (path : List (List ℕ)) → alone_gone none_at_all t path ≡ blocks_gone t path
gone_as_before t path =
    ap (λ shared. if links t path == 1 then alone_from shared 0 (blocks_for (length (content t path))) else 0) (at_none (get t.names path))
    ∙ ap (λ n. if links t path == 1 then n else 0) (all_alone 0 (blocks_for (length (content t path))))

write_as_before : (bitmap size offset count : ℕ) → write_over_figures bitmap none_shared size offset count ≡ write_figures bitmap size offset count
write_as_before bitmap size offset count = ap (λ f. if count == 0 then nothing else f) (writes_as_before bitmap size (min offset size) (offset + count))

truncate_as_before : (bitmap old new : ℕ) → truncate_over_figures bitmap none_shared old new ≡ truncate_figures bitmap old new
truncate_as_before bitmap old new =
    ap₂ (λ f g. if nat_lt old new then f else if nat_lt new old then g else nothing) (writes_as_before bitmap old old new) (cuts_as_before bitmap old new)

move_as_before : (bitmap : ℕ) (l : Layout) (t : Tree) (from to : List (List ℕ)) → move_over_figures bitmap none_at_all l t from to ≡ move_figures bitmap l t from to
move_as_before bitmap l t from to =
    ap (λ n. if is_there t to then moving bitmap 0 (release l (siblings t.names from) + n)
    else if are_in_one from to then moving bitmap 0 0
    else moving bitmap (growth l (siblings t.names to)) (release l (siblings t.names from))) (gone_as_before t to)

accepted_as_before : (bitmap : ℕ) (limit : Bounds) (t : Tree) (cmd : Cmd) → accepted_over bitmap none_at_all none_alone limit t cmd ≡ accepted_figures bitmap limit t cmd
accepted_as_before bitmap limit t (cmds.Unlink path) = ap (λ n. removing bitmap (release limit.layout (siblings t.names path) + n)) (gone_as_before t path)
accepted_as_before bitmap limit t (cmds.Rename from to) = ap (λ f. if is_same_node t from to then nothing else f) (move_as_before bitmap limit.layout t from to)
accepted_as_before bitmap limit t (cmds.Write path offset bytes) =
    ap (λ shared. write_over_figures bitmap shared (length (content t path)) offset (length bytes)) (at_none (get t.names path)) ∙ write_as_before bitmap (length (content t path)) offset (length bytes)
accepted_as_before bitmap limit t (cmds.Fill path offset count byte) =
    ap (λ shared. write_over_figures bitmap shared (length (content t path)) offset count) (at_none (get t.names path)) ∙ write_as_before bitmap (length (content t path)) offset count
accepted_as_before bitmap limit t (cmds.Truncate path size) =
    ap (λ shared. truncate_over_figures bitmap shared (length (content t path)) size) (at_none (get t.names path)) ∙ truncate_as_before bitmap (length (content t path)) size
accepted_as_before bitmap limit t (cmds.Unsnap name) =
    ap (shrinking bitmap) {x = kept_blocks limit (get t.snapshots name) + 0} {y = kept_blocks limit (get t.snapshots name)} (omega arith)
accepted_as_before bitmap limit t cmd = refl

pub figures_as_before : (bitmap : ℕ) (limit : Bounds) (t : Tree) (cmd : Cmd) (why : Option Refusal)
    → figures_over_by bitmap none_at_all none_alone limit t cmd why ≡ figures_by bitmap limit t cmd why
figures_as_before bitmap limit t cmd (Some why) = refl
figures_as_before bitmap limit t cmd None = accepted_as_before bitmap limit t cmd

-- What costs something with sharing costs something without, and the other way.

abbrev CostAlike : Figures → Figures → Type 0
CostAlike f g = nat_lt 0 f.cost ≡ nat_lt 0 g.cost

both_cost : (f g : Figures) → 0 < f.cost → 0 < g.cost → CostAlike f g
both_cost f g one other = lt-ltb 0 f.cost one ∙ sym (lt-ltb 0 g.cost other)

alike_if : (t : Bool) (a b c d : Figures) → CostAlike a b → CostAlike c d → CostAlike (if t then a else c) (if t then b else d)
alike_if true a b c d one other = one
alike_if false a b c d one other = other

writes_alike : (bitmap : ℕ) (shared : ℕ → Bool) (size lo hi : ℕ) → CostAlike (writing_over bitmap shared size lo hi) (writing bitmap size lo hi)
writes_alike bitmap shared size lo hi = both_cost (writing_over bitmap shared size lo hi) (writing bitmap size lo hi) (omega arith) (omega arith)

write_alike : (bitmap : ℕ) (shared : ℕ → Bool) (size offset count : ℕ) → CostAlike (write_over_figures bitmap shared size offset count) (write_figures bitmap size offset count)
write_alike bitmap shared size offset count =
    alike_if (count == 0) nothing nothing (writing_over bitmap shared size (min offset size) (offset + count)) (writing bitmap size (min offset size) (offset + count)) refl (writes_alike bitmap shared size (min offset size) (offset + count))

cuts_alike : (bitmap : ℕ) (shared : ℕ → Bool) (count kept freed : ℕ) → CostAlike (cutting bitmap shared count kept) (shrinking bitmap freed)
cuts_alike bitmap shared count kept freed = both_cost (cutting bitmap shared count kept) (shrinking bitmap freed) (omega arith) (omega arith)

truncate_alike : (bitmap : ℕ) (shared : ℕ → Bool) (old new : ℕ) → CostAlike (truncate_over_figures bitmap shared old new) (truncate_figures bitmap old new)
truncate_alike bitmap shared old new =
    alike_if (nat_lt old new) (writing_over bitmap shared old old new) (writing bitmap old old new) _ _ (writes_alike bitmap shared old old new)
    (alike_if (nat_lt new old) (cutting bitmap shared (blocks_for old) (blocks_for new)) (shrinking bitmap (blocks_for old - blocks_for new)) nothing nothing (cuts_alike bitmap shared (blocks_for old) (blocks_for new) (blocks_for old - blocks_for new)) refl)

moves_alike : (bitmap : ℕ) (shared : SharedNodes) (l : Layout) (t : Tree) (from to : List (List ℕ)) → CostAlike (move_over_figures bitmap shared l t from to) (move_figures bitmap l t from to)
moves_alike bitmap shared l t from to =
    let gone = release l (siblings t.names from) in
    alike_if (is_there t to) (moving bitmap 0 (gone + alone_gone shared t to)) (moving bitmap 0 (gone + blocks_gone t to)) _ _
    (both_cost (moving bitmap 0 (gone + alone_gone shared t to)) (moving bitmap 0 (gone + blocks_gone t to)) (omega arith) (omega arith)) refl

accepted_alike : (bitmap : ℕ) (shared : SharedNodes) (alone : BlocksAlone) (limit : Bounds) (t : Tree) (cmd : Cmd) → CostAlike (accepted_over bitmap shared alone limit t cmd) (accepted_figures bitmap limit t cmd)
accepted_alike bitmap shared alone limit t (cmds.Unlink path) =
    let gone = release limit.layout (siblings t.names path) in
    both_cost (removing bitmap (gone + alone_gone shared t path)) (removing bitmap (gone + blocks_gone t path)) (omega arith) (omega arith)
accepted_alike bitmap shared alone limit t (cmds.Rename from to) =
    alike_if (is_same_node t from to) nothing nothing (move_over_figures bitmap shared limit.layout t from to) (move_figures bitmap limit.layout t from to) refl (moves_alike bitmap shared limit.layout t from to)
accepted_alike bitmap shared alone limit t (cmds.Write path offset bytes) = write_alike bitmap (shared_at shared (get t.names path)) (length (content t path)) offset (length bytes)
accepted_alike bitmap shared alone limit t (cmds.Fill path offset count byte) = write_alike bitmap (shared_at shared (get t.names path)) (length (content t path)) offset count
accepted_alike bitmap shared alone limit t (cmds.Truncate path size) = truncate_alike bitmap (shared_at shared (get t.names path)) (length (content t path)) size
accepted_alike bitmap shared alone limit t (cmds.Unsnap name) =
    both_cost (shrinking bitmap (kept_blocks limit (get t.snapshots name) + alone name)) (shrinking bitmap (kept_blocks limit (get t.snapshots name))) (omega arith) (omega arith)
accepted_alike bitmap shared alone limit t cmd = refl

pub costs_alike : (bitmap : ℕ) (shared : SharedNodes) (alone : BlocksAlone) (limit : Bounds) (t : Tree) (cmd : Cmd) (why : Option Refusal)
    → nat_lt 0 (figures_over_by bitmap shared alone limit t cmd why).cost ≡ nat_lt 0 (figures_by bitmap limit t cmd why).cost
costs_alike bitmap shared alone limit t cmd (Some why) = refl
costs_alike bitmap shared alone limit t cmd None = accepted_alike bitmap shared alone limit t cmd
