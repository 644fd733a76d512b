use Rattle.engine_books.proofs.PutSteps.{put_leaves}
use Rattle.engine_books.proofs.books.Books.put.Goals as goal

pub returns-clause-kept : goal.returns-clause-kept
returns-clause-kept c = (put_leaves c.args.self.now _ c.put.new.self c.args.b c.args.from.now c.args.class c.class_for-class.result c.self.view_is c.requires.kept c.requires.room c.requires.from c.requires.below c.class_for-class.ensures c.told-from c.put.ensures c.lawful.ensures.rows c.lawful.ensures.taken).kept

pub returns-clause-books : goal.returns-clause-books
returns-clause-books c = (put_leaves c.args.self.now _ c.put.new.self c.args.b c.args.from.now c.args.class c.class_for-class.result c.self.view_is c.requires.kept c.requires.room c.requires.from c.requires.below c.class_for-class.ensures c.told-from c.put.ensures c.lawful.ensures.rows c.lawful.ensures.taken).books

pub returns-clause-began : goal.returns-clause-began
returns-clause-began c = (put_leaves c.args.self.now _ c.put.new.self c.args.b c.args.from.now c.args.class c.class_for-class.result c.self.view_is c.requires.kept c.requires.room c.requires.from c.requires.below c.class_for-class.ensures c.told-from c.put.ensures c.lawful.ensures.rows c.lawful.ensures.taken).began

pub returns-clause-map : goal.returns-clause-map
returns-clause-map c = (put_leaves c.args.self.now _ c.put.new.self c.args.b c.args.from.now c.args.class c.class_for-class.result c.self.view_is c.requires.kept c.requires.room c.requires.from c.requires.below c.class_for-class.ensures c.told-from c.put.ensures c.lawful.ensures.rows c.lawful.ensures.taken).map
