use Rattle.std.proofs.Common.{◌∙◌, ◌-◌, ◌&&◌, false, refl, sym, ap, subst, arith, length, slice_set}
use Rattle.std.proofs.lemmas.Bool.{lt-ltb}
use Rattle.std.proofs.lemmas.List.{length-set}
use Rattle.base_types.specs.Seal.{blocks_of}
use Rattle.layout_bytes.specs.Bitmap.{is_set}
use Rattle.engine_blocks.specs.declared.role.Role.TheVariants.{Changed, Untouched}
use Rattle.engine_blocks.specs.Running.{is_taken, count_roles}
use Rattle.engine_blocks.specs.State.{Bookkeeping, defined_part}
use Rattle.engine_blocks.specs.Calls.{IsWithFreed}
use Rattle.engine_blocks.specs.Plain.{role_in, bits_of}
use Rattle.engine_blocks.specs.Defined.{disk_bit}
use Rattle.engine_blocks.proofs.DefinedSteps.{free_told}
use Rattle.engine_blocks.specs.PlainOf.{books_of}
use Rattle.engine_blocks.proofs.PlainSteps.{free_roles, free_took, free_marks, free_books, free_unmarked, becomes_one, bit_here, some_live}
use Rattle.engine_blocks.proofs.plain.PlainBlocksBlocks.free.Goals as goal

pub overflow_sub-self : goal.overflow_sub-self
overflow_sub-self c =
    let p = c.args.self.now in
    let b = c.args.b in
    let g = p.geom in
    let bits = becomes_one g (blocks_of p.history.now) (blocks_of c.write_bit.new.history.now) b false c.write_bit.ensures.bits in
    some_live g (bits_of g (blocks_of p.history.now)) (bits_of g (blocks_of c.write_bit.new.history.now)) p.live p.live_is
    (c.a_cleared_block_is_free_again.ensures g (bits_of g (blocks_of p.history.now)) (bits_of g (blocks_of c.write_bit.new.history.now)) b (sym (disk_bit (books_of p) (blocks_of p.history.now) b c.requires.below) ∙ c.requires.marked refl)
    (record { from = c.requires.from; below = c.requires.below; clear = bit_here (bits_of g (blocks_of p.history.now)) (bits_of g (blocks_of c.write_bit.new.history.now)) b false bits }) bits)

pub invariant_of-self : goal.invariant_of-self
invariant_of-self c =
    let p = c.args.self.now in
    let b = c.args.b in
    let g = p.geom in
    let at = ap (λ a. role_in (slice_set (slice_set p.roles.items a Changed) b Untouched)) c.bit_block.ensures.value
    ∙ free_roles g p.roles.items b (omega (arith, c.bit_block.ensures.value, c.bit_block.ensures.within, p.roles_size)) (omega (arith, c.requires.below, p.roles_size)) in
    let bits = becomes_one g (blocks_of p.history.now) (blocks_of c.write_bit.new.history.now) b false c.write_bit.ensures.bits in
    let one = c.a_cleared_block_is_free_again.ensures g (bits_of g (blocks_of p.history.now)) (bits_of g (blocks_of c.write_bit.new.history.now)) b (sym (disk_bit (books_of p) (blocks_of p.history.now) b c.requires.below) ∙ c.requires.marked refl)
    (record { from = c.requires.from; below = c.requires.below; clear = bit_here (bits_of g (blocks_of p.history.now)) (bits_of g (blocks_of c.write_bit.new.history.now)) b false bits }) bits in
    let some = some_live g (bits_of g (blocks_of p.history.now)) (bits_of g (blocks_of c.write_bit.new.history.now)) p.live p.live_is one in
    record {
      size = c.write_bit.ensures.size ∙ p.size;
      busy_size = p.busy_size;
      roles_size = length-set (slice_set p.roles.items c.bit_block.result Changed) b Untouched ∙ length-set p.roles.items c.bit_block.result Changed ∙ p.roles_size;
      whole = λ k low. c.write_bit.ensures.whole k low (p.whole k low);
      live_is = omega (arith, p.live_is, one, some);
      accounts = omega (arith, p.accounts, some);
      unmarked = free_unmarked g (bits_of g (blocks_of p.history.now)) (bits_of g (blocks_of c.write_bit.new.history.now)) (blocks_of p.busy.items) b bits p.unmarked;
      fits = p.fits;
      took_them = omega (arith, p.took_them, free_took g (role_in p.roles.items) b, ap (count_roles g is_taken) at);
      took_few = omega (arith, p.took_few, some);
      ready = omega (arith, p.ready, c.write_bit.ensures.room, c.requires.room);
      floor_is = omega (arith, p.floor_is, ap length c.write_bit.ensures.points);
    }

pub returns-clause-books : goal.returns-clause-books
returns-clause-books c =
    let p = c.args.self.now in
    let b = c.args.b in
    free_books (books_of p) _ _ _ b
    (ap (λ x. x && is_set p.geom (blocks_of p.history.now) b) (lt-ltb b p.geom.n c.requires.below) ∙ sym (disk_bit (books_of p) (blocks_of p.history.now) b c.requires.below) ∙ c.requires.marked refl)
    (ap (λ a. role_in (slice_set (slice_set p.roles.items a Changed) b Untouched)) c.bit_block.ensures.value
    ∙ free_roles p.geom p.roles.items b (omega (arith, c.bit_block.ensures.value, c.bit_block.ensures.within, p.roles_size)) (omega (arith, c.requires.below, p.roles_size)))
    (free_marks p.geom (blocks_of p.history.now) (blocks_of c.write_bit.new.history.now) b c.requires.below c.write_bit.ensures.bits)
    (ap (λ ps. length ps - 1) c.write_bit.ensures.points)

pub returns-clause-map : goal.returns-clause-map
returns-clause-map c =
    let p = c.args.self.now in
    let b = c.args.b in
    let P : Bookkeeping → Type 0 = λ k. IsWithFreed p.geom (defined_part (books_of p) (blocks_of p.history.now)) (defined_part k (blocks_of c.write_bit.new.history.now)) b in
    λ tells. subst P (sym (returns-clause-books c)) (free_told (books_of p) (blocks_of p.history.now) (blocks_of c.write_bit.new.history.now) b c.requires.from c.write_bit.ensures.bits)
