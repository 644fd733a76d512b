use Rattle.std.proofs.Common.{◌≡◌, ◌∙◌, ◌-◌, true, sym, ap, arith, length, slice_set}
use Rattle.std.proofs.lemmas.Bool.{not-true}
use Rattle.std.proofs.lemmas.List.{length-set, with_items_is}
use Rattle.std.specs.Vec.{with_items}
use Rattle.base_types.specs.Seal.{blocks_of}
use Rattle.layout_bitmap.specs.Bits.{IsFree}
use Rattle.engine_blocks.specs.declared.role.Role.TheVariants.{Changed, Bare}
use Rattle.engine_blocks.specs.Running.{is_taken, count_roles}
use Rattle.engine_blocks.specs.Plain.{role_in, bits_of}
use Rattle.engine_blocks.specs.PlainOf.{books_of}
use Rattle.engine_blocks.proofs.PlainSteps.{take_roles, take_took, take_marks, take_reusable, take_books, take_unmarked, becomes_one, becomes_along}
use Rattle.engine_blocks.proofs.plain.PlainBlocks.take_one.Goals as goal

pub invariant_of-self : goal.invariant_of-self
invariant_of-self c =
    let p = c.args.self.now in
    let b = c.args.b in
    let g = p.geom in
    let at = ap (λ a. role_in (slice_set (slice_set p.roles.items a Changed) b Bare)) c.bit_block.ensures.value
    ∙ take_roles g p.roles.items b (omega (arith, c.bit_block.ensures.value, c.bit_block.ensures.within, p.roles_size)) (omega (arith, c.requires.may.below, p.roles_size)) in
    let size : length c.set.new.map ≡ p.busy.len = c.set.auto.map ∙ c.as_mut_slice.ensures.len in
    let copied = with_items_is p.busy c.set.new.map size in
    let after = (with_items p.busy c.set.new.map).items in
    let busy = becomes_along c.as_mut_slice.result.now c.set.new.map p.busy.items after b true (sym c.as_mut_slice.ensures.value) copied c.set.ensures.bits in
    let bits = becomes_one g (blocks_of p.history.now) (blocks_of c.write_bit.new.history.now) b true c.write_bit.ensures.bits in
    let clear : IsFree g (blocks_of p.busy.items) b = record { from = c.requires.may.from; below = c.requires.may.below; clear = not-true _ c.requires.may.free } in
    record {
      size = c.write_bit.ensures.size ∙ p.size;
      busy_size = ap length copied ∙ c.set.auto.map ∙ ap length c.as_mut_slice.ensures.value ∙ p.busy_size;
      roles_size = length-set (slice_set p.roles.items c.bit_block.result Changed) b Bare ∙ length-set p.roles.items c.bit_block.result Changed ∙ p.roles_size;
      whole = λ k low. c.write_bit.ensures.whole k low (p.whole k low);
      live_is = omega (arith, p.live_is, c.a_set_block_is_free_no_more.ensures g (bits_of g (blocks_of p.history.now)) (bits_of g (blocks_of c.write_bit.new.history.now)) b (record { from = clear.from; below = clear.below; clear = p.unmarked b clear }) bits);
      accounts = omega (arith, p.accounts, c.a_set_block_is_free_no_more.ensures g (blocks_of p.busy.items) (blocks_of after) b clear busy);
      unmarked = take_unmarked g (bits_of g (blocks_of p.history.now)) (bits_of g (blocks_of c.write_bit.new.history.now)) (blocks_of p.busy.items) (blocks_of after) b busy bits p.unmarked;
      fits = p.fits;
      took_them = omega (arith, p.took_them, take_took g (role_in p.roles.items) b, ap (count_roles g is_taken) at);
      took_few = omega (arith, p.took_few);
      ready = omega (arith, p.ready, c.write_bit.ensures.room, c.requires.room);
      floor_is = omega (arith, p.floor_is, ap length c.write_bit.ensures.points);
    }

pub returns-clause-books : goal.returns-clause-books
returns-clause-books c =
    let p = c.args.self.now in
    let b = c.args.b in
    let size : length c.set.new.map ≡ p.busy.len = c.set.auto.map ∙ c.as_mut_slice.ensures.len in
    take_books (books_of p) _ _ _ _ b
    (ap (λ a. role_in (slice_set (slice_set p.roles.items a Changed) b Bare)) c.bit_block.ensures.value
    ∙ take_roles p.geom p.roles.items b (omega (arith, c.bit_block.ensures.value, c.bit_block.ensures.within, p.roles_size)) (omega (arith, c.requires.may.below, p.roles_size)))
    (take_marks p.geom (blocks_of p.history.now) (blocks_of c.write_bit.new.history.now) b c.requires.may.below c.write_bit.ensures.bits)
    (take_reusable (blocks_of p.busy.items) (blocks_of (with_items p.busy c.set.new.map).items) b (becomes_along c.as_mut_slice.result.now c.set.new.map p.busy.items (with_items p.busy c.set.new.map).items b true (sym c.as_mut_slice.ensures.value) (with_items_is p.busy c.set.new.map size) c.set.ensures.bits))
    (ap (λ ps. length ps - 1) c.write_bit.ensures.points)
