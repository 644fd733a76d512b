use Rattle.std.proofs.Common.{◌≡◌, ◌+◌, min, refl, ap, ap₂, subst, ◌∙◌}
use Rattle.layout_geometry.specs.Geometry.{bitmap_blocks}
use Rattle.engine_running.specs.Running.{HasRoomFor}
use Rattle.engine_books.specs.Books.{TransactionBooks}
use Rattle.engine_books.proofs.Prepared.{prepared_none, prepared_all}
use Rattle.engine_books.proofs.books.Books.prepare.Goals as goal

pub returns-in_err-reserve-clause-kept : goal.returns-in_err-reserve-clause-kept
returns-in_err-reserve-clause-kept c = (prepared_none c.args.self.now _ c.reserve.new.self c.self.inside.reuse c.self.view_is c.requires.kept c.in_err-reserve.ensures.same c.in_err-reserve.ensures.no_less refl).kept

pub returns-in_err-reserve-2-clause-kept : goal.returns-in_err-reserve-2-clause-kept
returns-in_err-reserve-2-clause-kept c = (prepared_none c.args.self.now _ c.reserve.new.self c.reserve-2.new.self c.self.view_is c.requires.kept c.in_ok-reserve.ensures.same c.in_ok-reserve.ensures.no_less c.in_err-reserve-2.ensures.err).kept

pub returns-in_err-reserve-2-clause-began : goal.returns-in_err-reserve-2-clause-began
returns-in_err-reserve-2-clause-began c = (prepared_none c.args.self.now _ c.reserve.new.self c.reserve-2.new.self c.self.view_is c.requires.kept c.in_ok-reserve.ensures.same c.in_ok-reserve.ensures.no_less c.in_err-reserve-2.ensures.err).began

pub returns-clause-kept : goal.returns-clause-kept
returns-clause-kept c =
    let bits : c.min-bits.result ≡ min (min (c.max-takes.result + c.max-frees.result) 4294967295) (bitmap_blocks c.args.self.now.geom + 1) =
    c.min-bits.ensures ∙ ap₂ (λ x y. min x (y + 1)) c.saturating_add.ensures (c.bitmap_blocks.ensures ∙ ap (λ (v : TransactionBooks). bitmap_blocks v.geom) c.self.view_is) in
    (prepared_all c.args.self.now _ c.reserve.new.self c.reserve-2.new.self c.max-puts.result c.max-takes.result c.max-frees.result c.min-bits.result c.self.view_is c.requires.kept c.in_ok-reserve.ensures.same
    (subst (λ n. HasRoomFor c.reserve.new.self n c.max-takes.result c.max-frees.result) c.in-Some.ensures.1 c.in_ok-reserve.ensures.room) c.in_ok-reserve-2.ensures.ok bits).kept

pub returns-clause-began : goal.returns-clause-began
returns-clause-began c =
    let bits : c.min-bits.result ≡ min (min (c.max-takes.result + c.max-frees.result) 4294967295) (bitmap_blocks c.args.self.now.geom + 1) =
    c.min-bits.ensures ∙ ap₂ (λ x y. min x (y + 1)) c.saturating_add.ensures (c.bitmap_blocks.ensures ∙ ap (λ (v : TransactionBooks). bitmap_blocks v.geom) c.self.view_is) in
    (prepared_all c.args.self.now _ c.reserve.new.self c.reserve-2.new.self c.max-puts.result c.max-takes.result c.max-frees.result c.min-bits.result c.self.view_is c.requires.kept c.in_ok-reserve.ensures.same
    (subst (λ n. HasRoomFor c.reserve.new.self n c.max-takes.result c.max-frees.result) c.in-Some.ensures.1 c.in_ok-reserve.ensures.room) c.in_ok-reserve-2.ensures.ok bits).began
