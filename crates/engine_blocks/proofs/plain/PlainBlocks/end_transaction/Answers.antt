use Rattle.std.proofs.Common.{◌≡◌, ◌∙◌, ◌+◌, ◌<◌, ◌&&◌, not, ℕ, sym, ap, arith, length}
use Rattle.std.proofs.lemmas.Bool.{not-true, lt-ltb}
use Rattle.std.proofs.lemmas.List.{with_items_is, length_push, length-replicate}
use Rattle.std.specs.Vec.{with_items}
use Rattle.base_types.specs.Seal.{blocks_of}
use Rattle.layout_geometry.specs.Geometry.{bitmap_start, bitmap_blocks}
use Rattle.layout_bytes.specs.Bitmap.{is_set}
use Rattle.layout_bitmap.specs.Bits.{free_blocks}
use Rattle.engine_blocks.specs.declared.role.Role.TheVariants.{Untouched}
use Rattle.engine_blocks.specs.Plain.{role_in, bits_of, marks_of}
use Rattle.engine_blocks.specs.PlainOf.{books_of}
use Rattle.engine_blocks.proofs.Ends.{untouched, none_taken, copied_bit, copied_free, end_books}
use Rattle.engine_blocks.proofs.plain.PlainBlocks.end_transaction.Goals as goal

pub invariant_of-self-2 : goal.invariant_of-self-2
invariant_of-self-2 c =
    let p = c.args.self.now in
    let g = p.geom in
    let m = blocks_of p.history.now in
    let size : length c.read_bits.new.into ≡ p.busy.len = c.read_bits.ensures.size ∙ c.as_mut_slice.ensures.len in
    let copied = with_items_is p.busy c.read_bits.new.into size in
    let after = (with_items p.busy c.read_bits.new.into).items in
    let busy : (k : ℕ) → k < bitmap_blocks g → blocks_of after k ≡ m (bitmap_start g + k) =
    λ k low. ap (λ l. blocks_of l k) copied ∙ c.read_bits.ensures.bits k low ∙ ap (λ l. blocks_of l (bitmap_start g + k)) c.make_point.ensures.now in
    let roles_are = with_items_is p.roles c.forget.new.roles (ap length c.forget.ensures ∙ length-replicate (length c.as_mut_slice-2.result.now) Untouched ∙ c.as_mut_slice-2.ensures.len) in
    let none = untouched (with_items p.roles c.forget.new.roles).items (length c.as_mut_slice-2.result.now) (roles_are ∙ c.forget.ensures) in
    record {
      size = ap length c.make_point.ensures.now ∙ p.size;
      busy_size = ap length copied ∙ c.read_bits.ensures.size ∙ ap length c.as_mut_slice.ensures.value ∙ p.busy_size;
      roles_size = ap length (roles_are ∙ c.forget.ensures) ∙ length-replicate (length c.as_mut_slice-2.result.now) Untouched ∙ ap length c.as_mut_slice-2.ensures.value ∙ p.roles_size;
      whole = λ b low. ap (λ l. length (blocks_of l b)) c.make_point.ensures.now ∙ p.whole b low;
      live_is = omega (arith, p.live_is, ap (λ l. length (free_blocks g (bits_of g (blocks_of l)))) c.make_point.ensures.now);
      accounts = omega (arith, p.live_is, copied_free g m after busy);
      unmarked = λ b free. ap (λ l. is_set g (blocks_of l) b) c.make_point.ensures.now ∙ sym (copied_bit g m after busy b free.below) ∙ free.clear;
      fits = omega arith;
      took_them = none_taken g (role_in (with_items p.roles c.forget.new.roles).items) none;
      took_few = omega arith;
      ready = omega (arith, p.ready, c.make_point.ensures.room);
      floor_is = omega (arith, p.floor_is, ap length c.in_ok-make_point.ensures.points, length_push p.history.points p.history.now);
    }

pub returns-clause-books : goal.returns-clause-books
returns-clause-books c =
    let p = c.args.self.now in
    let roles_are = with_items_is p.roles c.forget.new.roles (ap length c.forget.ensures ∙ length-replicate (length c.as_mut_slice-2.result.now) Untouched ∙ c.as_mut_slice-2.ensures.len) in
    end_books (books_of p) _ _ _ _
    (untouched (with_items p.roles c.forget.new.roles).items (length c.as_mut_slice-2.result.now) (roles_are ∙ c.forget.ensures))
    (ap (λ l. marks_of p.geom (blocks_of l)) c.make_point.ensures.now)
    (omega (arith, p.floor_is, ap length c.in_ok-make_point.ensures.points, length_push p.history.points p.history.now))

pub returns-clause-clears : goal.returns-clause-clears
returns-clause-clears c =
    let p = c.args.self.now in
    let g = p.geom in
    let m = blocks_of p.history.now in
    let size : length c.read_bits.new.into ≡ p.busy.len = c.read_bits.ensures.size ∙ c.as_mut_slice.ensures.len in
    let copied = with_items_is p.busy c.read_bits.new.into size in
    let after = (with_items p.busy c.read_bits.new.into).items in
    let busy : (k : ℕ) → k < bitmap_blocks g → blocks_of after k ≡ m (bitmap_start g + k) =
    λ k low. ap (λ l. blocks_of l k) copied ∙ c.read_bits.ensures.bits k low ∙ ap (λ l. blocks_of l (bitmap_start g + k)) c.make_point.ensures.now in
    λ b at. ap not (copied_bit g m after busy b at.below ∙ sym (ap (λ x. x && is_set g m b) (lt-ltb b g.n at.below)))

pub returns-clause-reusable : goal.returns-clause-reusable
returns-clause-reusable c =
    let p = c.args.self.now in
    let g = p.geom in
    let m = blocks_of p.history.now in
    let size : length c.read_bits.new.into ≡ p.busy.len = c.read_bits.ensures.size ∙ c.as_mut_slice.ensures.len in
    let copied = with_items_is p.busy c.read_bits.new.into size in
    let after = (with_items p.busy c.read_bits.new.into).items in
    let busy : (k : ℕ) → k < bitmap_blocks g → blocks_of after k ≡ m (bitmap_start g + k) =
    λ k low. ap (λ l. blocks_of l k) copied ∙ c.read_bits.ensures.bits k low ∙ ap (λ l. blocks_of l (bitmap_start g + k)) c.make_point.ensures.now in
    λ b may. ap not (copied_bit g m after busy b may.below ∙ p.unmarked b (record { from = may.from; below = may.below; clear = not-true _ may.free }))
