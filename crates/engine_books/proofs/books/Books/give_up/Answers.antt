use Rattle.std.proofs.Common.{rules, ◌≡◌, true}
use Rattle.base_types.specs.Seal.{blocks_of}
use Rattle.layout_bitmap.specs.Bits.{bit_in}
use Rattle.engine_books.proofs.GivenUp.{live_at, given_at}
use Rattle.engine_books.proofs.books.Books.give_up.Goals as goal

pub overflow_sub-self : goal.overflow_sub-self
overflow_sub-self c =
    let set : bit_in (blocks_of c.self.inside.bitmap.items) c.args.b ≡ true = search rules in
    live_at c.args.self.now _ c.write_bit.new.bitmap.items c.args.b c.self.view_is c.requires.kept c.requires.from c.requires.below set c.write_bit.ensures.bits

pub returns : goal.returns
returns c =
    let set : bit_in (blocks_of c.self.inside.bitmap.items) c.args.b ≡ true = search rules in
    given_at c.args.self.now _ c.args.b c.freed-2.new.self c.write_bit.new.bitmap.items c.freed.new.self c.self.view_is c.requires.kept c.requires.from c.requires.below set c.freed-2.ensures c.freed.ensures c.write_bit.ensures.bits c.write_bit.ensures.others c.write_bit.ensures.size
