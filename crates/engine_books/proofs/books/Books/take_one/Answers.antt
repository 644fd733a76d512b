use Rattle.std.proofs.Common.{subst}
use Rattle.engine_books.specs.Taking.{TakesOne}
use Rattle.engine_books.proofs.Takes.{one_taken}
use Rattle.engine_books.proofs.books.Books.take_one.Goals as goal

pub returns : goal.returns
returns c = subst (λ v. TakesOne c.args.b v c.put_bits.new.self) c.self.view_is
    (one_taken _ c.put_bits.new.self c.write_bit.new.bitmap.items c.args.b c.forget.new.self c.took.new.self c.write_bit.ensures.bits c.write_bit.ensures.others c.write_bit.ensures.size c.lawful.ensures.rows c.forget.ensures c.took.ensures c.lawful-2.ensures.rows c.put_bits.ensures.whole c.put_bits.ensures.puts c.put_bits.ensures.rest)
