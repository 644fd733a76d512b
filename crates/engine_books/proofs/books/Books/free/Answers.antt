use Rattle.engine_books.proofs.Freed.{free_at}
use Rattle.engine_books.proofs.books.Books.free.Goals as goal

pub returns-clause-kept : goal.returns-clause-kept
returns-clause-kept c = (free_at c.args.self.now c.give_up.new.self _ c.put_bits.new.self _ c.args.b c.self.view_is c.self-2.view_is c.requires.kept c.requires.from c.requires.below c.requires.room c.give_up.ensures c.lawful.ensures.rows c.put_bits.ensures.puts c.put_bits.ensures.whole c.put_bits.ensures.rest c.calls_change_what_is_dead.ensures.freed c.lawful-3.ensures c.lawful-2.ensures.rows c.lawful-2.ensures.taken).kept

pub returns-clause-books : goal.returns-clause-books
returns-clause-books c = (free_at c.args.self.now c.give_up.new.self _ c.put_bits.new.self _ c.args.b c.self.view_is c.self-2.view_is c.requires.kept c.requires.from c.requires.below c.requires.room c.give_up.ensures c.lawful.ensures.rows c.put_bits.ensures.puts c.put_bits.ensures.whole c.put_bits.ensures.rest c.calls_change_what_is_dead.ensures.freed c.lawful-3.ensures c.lawful-2.ensures.rows c.lawful-2.ensures.taken).books

pub returns-clause-began : goal.returns-clause-began
returns-clause-began c = (free_at c.args.self.now c.give_up.new.self _ c.put_bits.new.self _ c.args.b c.self.view_is c.self-2.view_is c.requires.kept c.requires.from c.requires.below c.requires.room c.give_up.ensures c.lawful.ensures.rows c.put_bits.ensures.puts c.put_bits.ensures.whole c.put_bits.ensures.rest c.calls_change_what_is_dead.ensures.freed c.lawful-3.ensures c.lawful-2.ensures.rows c.lawful-2.ensures.taken).began

pub returns-clause-map : goal.returns-clause-map
returns-clause-map c = (free_at c.args.self.now c.give_up.new.self _ c.put_bits.new.self _ c.args.b c.self.view_is c.self-2.view_is c.requires.kept c.requires.from c.requires.below c.requires.room c.give_up.ensures c.lawful.ensures.rows c.put_bits.ensures.puts c.put_bits.ensures.whole c.put_bits.ensures.rest c.calls_change_what_is_dead.ensures.freed c.lawful-3.ensures c.lawful-2.ensures.rows c.lawful-2.ensures.taken).map
