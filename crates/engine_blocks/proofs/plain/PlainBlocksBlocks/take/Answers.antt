use Rattle.std.proofs.Common.{◌≡◌, ◌∙◌, ◌+◌, ◌-◌, ◌<◌, ◌++◌, ◌∷◌, [], true, sym, ap, subst, arith, length, take, get_or}
use Rattle.std.proofs.lemmas.List.{take_more, take_all, length-take-le}
use Rattle.base_types.specs.Seal.{blocks_of}
use Rattle.engine_blocks.specs.State.{Bookkeeping, IsReusable, after_take, defined_part}
use Rattle.engine_blocks.specs.Plain.{IsWithBits}
use Rattle.engine_blocks.specs.Calls.{IsWithTaken}
use Rattle.engine_blocks.specs.PlainOf.{books_of}
use Rattle.engine_blocks.specs.PlainLaws.{plain_is_sound}
use Rattle.engine_blocks.proofs.DefinedSteps.{take_told}
use Rattle.engine_blocks.proofs.Takes.{take_more_books, take_more_bits, may_next, bits_apart}
use Rattle.engine_blocks.proofs.plain.PlainBlocksBlocks.take.Goals as goal

pub take_one-requires-clause-room : goal.take_one-requires-clause-room
take_one-requires-clause-room c =
    let i = c.loop-b.b-index in
    let spare : c.loop-b.self.takes ≡ c.args.self.now.takes - length (take i c.args.list.now) = ap (λ k. k.spare.takes) c.loop-b.invariant.books in
    omega (arith, spare, length-take-le i c.args.list.now (omega (arith, c.loop-b-test.true, ap length c.as_slice-b-items.ensures)), c.requires.room, c.loop-b-test.true, ap length c.as_slice-b-items.ensures)

pub take_one-requires-clause-may : goal.take_one-requires-clause-may
take_one-requires-clause-may c =
    let i = c.loop-b.b-index in
    let P : Bookkeeping → Type 0 = λ k. IsReusable k.geom k.reusable (get_or c.as_slice-b-items.result.now i 0) in
    subst P (sym c.loop-b.invariant.books)
    (subst (λ xs. IsReusable c.args.self.now.geom (after_take (books_of c.args.self.now) (take i c.args.list.now)).reusable (get_or xs i 0)) (sym c.as_slice-b-items.ensures)
    (may_next (books_of c.args.self.now) c.args.list.now i 0 (omega (arith, c.loop-b-test.true, ap length c.as_slice-b-items.ensures)) c.requires.takeable))

pub loop-b-preserved : goal.loop-b-preserved
loop-b-preserved c =
    let i = c.loop-b.b-index in
    let xs = c.args.list.now in
    let b = get_or c.as_slice-b-items.result.now i 0 in
    let start = books_of c.args.self.now in
    let low : i < length xs = omega (arith, c.loop-b-test.true, ap length c.as_slice-b-items.ensures) in
    let next : take i xs ++ b ∷ [] ≡ take (i + 1) xs = ap (λ ys. take i xs ++ get_or ys i 0 ∷ []) c.as_slice-b-items.ensures ∙ sym (take_more xs i 0 low) in
    let geom : c.loop-b.self.geom ≡ c.args.self.now.geom = ap (λ k. k.geom) c.loop-b.invariant.books in
    record {
      books = c.take_one.ensures.books ∙ ap (λ k. after_take k (b ∷ [])) c.loop-b.invariant.books
          ∙ take_more_books start (take i xs) b (bits_apart start xs i b c.requires.takeable (omega (arith, (c.requires.takeable.each i 0 low).below, ap (λ ys. get_or ys i 0) c.as_slice-b-items.ensures)))
          ∙ ap (after_take start) next;
      map = subst (λ ys. IsWithBits c.args.self.now.geom (blocks_of c.args.self.now.history.now) (blocks_of c.take_one.new.self.history.now) ys true) next
          (take_more_bits c.args.self.now.geom (blocks_of c.args.self.now.history.now) (blocks_of c.loop-b.self.history.now) (blocks_of c.take_one.new.self.history.now) (take i xs) b c.loop-b.invariant.map
          (subst (λ g. IsWithBits g (blocks_of c.loop-b.self.history.now) (blocks_of c.take_one.new.self.history.now) (b ∷ []) true) geom c.take_one.ensures.map));
      points = c.take_one.ensures.points ∙ c.loop-b.invariant.points;
      ticks = c.take_one.ensures.ticks ∙ c.loop-b.invariant.ticks;
    }

pub returns-clause-books : goal.returns-clause-books
returns-clause-books c = c.loop-b.invariant.books ∙ ap (after_take (books_of c.args.self.now)) (take_all c.loop-b.b-index c.args.list.now (omega (arith, c.loop-b-test.false, ap length c.as_slice-b-items.ensures)))

pub returns-clause-map : goal.returns-clause-map
returns-clause-map c =
    let p = c.args.self.now in
    let P : Bookkeeping → Type 0 = λ k. IsWithTaken p.geom (defined_part (books_of p) (blocks_of p.history.now)) (defined_part k (blocks_of c.loop-b.self.history.now)) c.args.list.now in
    λ tells. subst P (sym (returns-clause-books c)) (take_told (books_of p) (blocks_of p.history.now) (blocks_of c.loop-b.self.history.now) c.args.list.now c.requires.takeable (plain_is_sound p).unmarked
    (subst (λ ys. IsWithBits p.geom (blocks_of p.history.now) (blocks_of c.loop-b.self.history.now) ys true)
    (take_all c.loop-b.b-index c.args.list.now (omega (arith, c.loop-b-test.false, ap length c.as_slice-b-items.ensures))) c.loop-b.invariant.map))
