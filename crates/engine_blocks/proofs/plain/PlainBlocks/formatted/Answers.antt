use Rattle.std.proofs.Common.{◌≡◌, ◌∙◌, ◌+◌, ◌-◌, ◌/◌, ◌<◌, ◌≤◌, ◌&&◌, nat_lt, ℕ, false, List, [], None, get_or, refl, sym, ap, arith, length}
use Rattle.std.proofs.lemmas.Bool.{lt-ltb}
use Rattle.engine_blocks.proofs.DefinedSteps.{kept_live}
use Rattle.engine_blocks.specs.Defined.{defined_at, table_defined}
use Rattle.std.proofs.lemmas.List.{length-replicate}
use Rattle.std.proofs.lemmas.List.FromFn.{length-map-range_with_len}
use Rattle.base_types.specs.Seal.{blocks_of}
use Rattle.layout_geometry.specs.Geometry.{Geometry, bitmap_start, bitmap_blocks, data_start}
use Rattle.layout_bytes.specs.Bitmap.{is_set}
use Rattle.layout_journal.specs.Formatted.{formatted}
use Rattle.layout_bitmap.specs.Bits.{free_blocks}
use Rattle.engine_blocks.specs.declared.role.Role.TheVariants.{Untouched}
use Rattle.engine_blocks.specs.Running.{is_payload, is_fresh, is_bare}
use Rattle.engine_blocks.specs.Plain.{role_in, bits_of, marks_of}
use Rattle.engine_blocks.specs.State.{Bookkeeping}
use Rattle.engine_blocks.specs.declared.role.Role.{Role}
use Rattle.engine_blocks.proofs.Ends.{untouched, none_of, none_taken}
use Rattle.engine_blocks.proofs.Begins.{block_at, clear_at, all_free}
use Rattle.engine_blocks.proofs.plain.PlainBlocks.formatted.Goals as goal

-- the bookkeeping of such blocks, of which only the geometry, the marks and the roles matter here
abbrev begun : Geometry → List (List ℕ) → List Role → Bookkeeping
begun g now roles = record {
  geom = g;
  running = record { roles = role_in roles; weight = 0; held = 0; took = 0 };
  spare = record { puts = 0; takes = 0; frees = 0 };
  marked = marks_of g (blocks_of now);
  reusable = λ b. false;
  waiting = 0;
  since = λ b. None;
  area = 0;
  room = 0;
  free_places = 0;
  turns = 0;
  owed = 0;
  point = 0;
  floor = 0;
  stopped = false;
}

pub invariant_of-result : goal.invariant_of-result
invariant_of-result c =
    let g = c.args.geom in
    let blocks = c.in_ok-blocks.blocks.items in
    let busy = c.in_ok-busy.busy.items in
    let bit : (b : ℕ) → b < g.n → is_set g (formatted g) b ≡ nat_lt b (data_start g) = λ b low. c.the_formatted_disk_is_empty.ensures.bits g b c.lawful.ensures.fits (omega (arith, low)) in
    let at : (b : ℕ) → b < g.n → blocks_of blocks b ≡ formatted g b = λ b low. block_at g 0 (c.n.result - 0) b blocks c.in_ok-blocks.ensures (omega (arith, low, c.n.ensures)) ∙ ap (formatted g) {x = 0 + b} (omega arith) in
    let clear : (b : ℕ) → data_start g ≤ b → b < g.n → is_set g (blocks_of blocks) b ≡ false =
    λ b from low. clear_at g b (blocks_of blocks (bitmap_start g + b / 8192)) (at (bitmap_start g + b / 8192) (omega (arith, low, c.lawful.ensures.limits.data_room))) (bit b low) from in
    let busy_at : (k : ℕ) → k < bitmap_blocks g → blocks_of busy k ≡ formatted g (bitmap_start g + k) =
    λ k low. block_at g c.bitmap_start.result (c.table_start.result - c.bitmap_start.result) k busy c.in_ok-busy.ensures (omega (arith, low, c.bitmap_start.ensures, c.table_start.ensures)) ∙ ap (λ a. formatted g (a + k)) c.bitmap_start.ensures in
    record {
      size = ap length c.in_ok-history.ensures.now ∙ ap length c.in_ok-blocks.ensures ∙ length-map-range_with_len (formatted g) 0 (c.n.result - 0) ∙ omega (arith, c.n.ensures);
      busy_size = ap length c.in_ok-busy.ensures ∙ length-map-range_with_len (formatted g) c.bitmap_start.result (c.table_start.result - c.bitmap_start.result) ∙ omega (arith, c.bitmap_start.ensures, c.table_start.ensures);
      roles_size = ap length c.in_ok-roles.ensures ∙ length-replicate c.n-2.result Untouched ∙ c.n-2.ensures;
      whole = λ b low. ap (λ l. length (blocks_of l b)) c.in_ok-history.ensures.now ∙ ap length (at b low) ∙ c.the_formatted_disk_is_empty.ensures.whole g b;
      live_is = omega (arith, ap (λ l. length (free_blocks g (bits_of g (blocks_of l)))) c.in_ok-history.ensures.now, all_free g (bits_of g (blocks_of blocks)) clear);
      accounts = omega (arith, all_free g (blocks_of busy) (λ b from low. clear_at g b (blocks_of busy (b / 8192)) (busy_at (b / 8192) (omega (arith, low))) (bit b low) from));
      unmarked = λ b free. ap (λ l. is_set g (blocks_of l) b) c.in_ok-history.ensures.now ∙ clear b free.from free.below;
      fits = omega arith;
      took_them = none_taken g (role_in c.in_ok-roles.roles.items) (untouched c.in_ok-roles.roles.items c.n-2.result c.in_ok-roles.ensures);
      took_few = omega arith;
      ready = omega arith;
      floor_is = omega (arith, ap length c.in_ok-history.ensures.points);
    }

pub returns-clause-begun : goal.returns-clause-begun
returns-clause-begun c =
    let none = untouched c.in_ok-roles.roles.items c.n-2.result c.in_ok-roles.ensures in
    record {
      point = omega (arith, ap length c.in_ok-history.ensures.points);
      weight = refl;
      held = refl;
      payloads = none_of c.args.geom is_payload (role_in c.in_ok-roles.roles.items) none refl;
      fresh = none_of c.args.geom is_fresh (role_in c.in_ok-roles.roles.items) none refl;
      none_bare = λ b. ap (λ r. is_bare (r b)) none;
      going = refl;
    }

pub returns-clause-map : goal.returns-clause-map
returns-clause-map c =
    let k = begun c.args.geom c.in_ok-history.history.now c.in_ok-roles.roles.items in
    λ b from low.
    defined_at k (blocks_of c.in_ok-history.history.now) b (table_defined k b from low)
    ∙ ap (λ l. blocks_of l b) c.in_ok-history.ensures.now
    ∙ block_at c.args.geom 0 (c.n.result - 0) b c.in_ok-blocks.blocks.items c.in_ok-blocks.ensures (omega (arith, low, c.n.ensures, c.lawful.ensures.limits.data_room)) ∙ ap (formatted c.args.geom) {x = 0 + b} (omega arith)

pub returns-clause-point : goal.returns-clause-point
returns-clause-point c =
    let none = untouched c.in_ok-roles.roles.items c.n-2.result c.in_ok-roles.ensures in
    let k = begun c.args.geom c.in_ok-history.history.now c.in_ok-roles.roles.items in
    λ m is. kept_live k (blocks_of c.in_ok-history.history.now) m (λ b. ap (λ r. is_bare (r b)) none)
    (λ b low. ap (λ x. x && is_set c.args.geom (blocks_of c.in_ok-history.history.now) b) (lt-ltb b c.args.geom.n low))
    (is.is ∙ ap blocks_of (ap (λ ps. get_or ps 0 []) c.in_ok-history.ensures.points ∙ sym c.in_ok-history.ensures.now))
