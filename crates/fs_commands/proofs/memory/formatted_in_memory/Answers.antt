use Rattle.std.proofs.Common.{◌≡◌, refl, sym, ap, ◌∙◌, subst}
use Rattle.crash_stands.specs.Bounds.{bounds_of}
use Rattle.base_types.specs.Seal.{Blocks}
use Rattle.layout_geometry.specs.Geometry.{Geometry}
use Rattle.layout_journal.specs.Formatted.{formatted}
use Rattle.engine_blocks.specs.PlainOf.{state_of}
use Rattle.engine_blocks.specs.State.{Bookkeeping}
use Rattle.crash_stands.specs.Stands.{IsTreeOf}
use Rattle.fs_check.specs.Whole.{OnDamage}
use Rattle.fs_check.specs.declared.checking.CheckRefusal.{CheckRefusal}
use Rattle.lang_tree.specs.Step.{start, session_on}
use Rattle.lang_tree.specs.Tree.{Tree}
use Rattle.fs_commands.specs.Opened.{blocks_in}
use Rattle.fs_session.specs.Memory.{room_of}
use Rattle.fs_session.specs.Room.{IsFirstRoom}
use Rattle.fs_session.specs.Sessions.{IsSession}
use Rattle.fs_commands.proofs.Formatted.{has_live, no_data, still_begun, still_empty}
use Rattle.fs_commands.proofs.memory.formatted_in_memory.Goals as goal
use Rattle.fs_commands.proofs.memory.formatted_in_memory.Goals.{In_ok-blocks}

-- the root alone stands in the blocks
root_stands : (c : In_ok-blocks) → IsTreeOf c.args.geom.now (state_of c.in_ok-blocks.blocks).map (start (bounds_of c.args.geom.now)).tree
root_stands c =
    let g = c.args.geom.now in
    let m = (state_of c.in_ok-blocks.blocks).map in
    c.live_blocks_are_enough.ensures.tree g _ m (start (bounds_of g)).tree c.lawful.ensures.limits
    (has_live g m (λ b. c.bitmap_and_node_table_are_live.ensures g (formatted g) b c.lawful.ensures.limits) c.in_ok-blocks.ensures.map (λ b. c.the_formatted_disk_is_empty.ensures.bits g b c.lawful.ensures.fits))
    (c.the_formatted_disk_stands_for_the_root.ensures.blocks g c.lawful.ensures.fits)

pub returns-in-Ok-clause-session : goal.returns-in-Ok-clause-session
returns-in-Ok-clause-session c =
    let g = c.args.geom.now in
    let s = state_of c.in_ok-blocks.blocks in
    let t = state_of (blocks_in c.in-Ok.fs) in
    let opened = c.in-Ok.ensures.session refl in
    let looks = c.in-Ok.ensures.looks in
    let geom : t.books.geom ≡ g = ap (λ (k : Bookkeeping). k.geom) looks.books ∙ c.in_ok-blocks.ensures.geom in
    let root : IsTreeOf t.books.geom t.map (start (bounds_of g)).tree =
    subst (λ (k : Geometry). IsTreeOf k t.map (start (bounds_of g)).tree) (sym geom)
    (subst (λ (m : Blocks). IsTreeOf g m (start (bounds_of g)).tree) (sym (looks.map refl)) (root_stands ((goal.at.returns-in-Ok-clause-session c).In_ok-blocks))) in
    let same : opened.0 ≡ (start (bounds_of g)).tree = c.an_image_stands_for_one_tree.ensures.blocks t.books.geom t.map opened.0 (start (bounds_of g)).tree opened.1.tree root in
    subst (λ (k : Geometry). IsSession t (session_on (bounds_of k) (start (bounds_of g)).tree)) c.in_ok-blocks.ensures.geom (subst (λ (tree : Tree). IsSession t (session_on (bounds_of s.books.geom) tree)) same opened.1)

pub returns-in-Ok-clause-room : goal.returns-in-Ok-clause-room
returns-in-Ok-clause-room c =
    let g = c.args.geom.now in
    let t = state_of (blocks_in c.in-Ok.fs) in
    let looks = c.in-Ok.ensures.looks in
    subst (λ (k : Geometry). IsFirstRoom k (room_of t)) (ap (λ (k : Bookkeeping). k.geom) looks.books ∙ c.in_ok-blocks.ensures.geom)
    (c.nothing_is_taken_at_first.ensures refl (blocks_in c.in-Ok.fs) (start (bounds_of g)) refl (returns-in-Ok-clause-session c)
    (still_empty g (state_of c.in_ok-blocks.blocks) t c.in_ok-blocks.ensures.geom looks.books (looks.map refl) (no_data g (state_of c.in_ok-blocks.blocks).map (λ b. c.bitmap_and_node_table_are_live.ensures g (formatted g) b c.lawful.ensures.limits) c.in_ok-blocks.ensures.map (λ b. c.the_formatted_disk_is_empty.ensures.bits g b c.lawful.ensures.fits)))
    (still_begun (state_of c.in_ok-blocks.blocks) t looks.books c.in_ok-blocks.ensures.begun))

pub unreachable-requires : goal.unreachable-requires
unreachable-requires c =
    let g = c.args.geom.now in
    let s = state_of c.in_ok-blocks.blocks in
    let none = subst (λ (why : CheckRefusal). OnDamage why (λ what. (t : Tree) → IsTreeOf s.books.geom s.map t → ⊥)) c.in-Err-default-Damaged.field-0-1-is (c.in-Err-default-Damaged.ensures.none refl) in
    none (start (bounds_of g)).tree (subst (λ (k : Geometry). IsTreeOf k s.map (start (bounds_of g)).tree) (sym c.in_ok-blocks.ensures.geom) (root_stands ((goal.at.unreachable-requires c).In_ok-blocks)))
