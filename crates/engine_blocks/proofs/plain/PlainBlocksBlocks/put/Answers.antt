use Rattle.std.proofs.Common.{◌∙◌, ◌-◌, ◌&&◌, sym, refl, ap, subst, arith, length, slice_set, []}
use Rattle.std.proofs.lemmas.Bool.{lt-ltb}
use Rattle.std.proofs.lemmas.List.{length-set, get_or-set_same, get_or-set_other}
use Rattle.base_types.specs.Seal.{blocks_of}
use Rattle.layout_bytes.specs.Bitmap.{is_set}
use Rattle.engine_blocks.specs.Running.{is_taken, count_roles}
use Rattle.engine_blocks.specs.State.{Bookkeeping, defined_part}
use Rattle.engine_blocks.specs.Calls.{IsWithBlock}
use Rattle.engine_blocks.specs.Plain.{role_in}
use Rattle.engine_blocks.specs.Defined.{disk_bit}
use Rattle.engine_blocks.proofs.DefinedSteps.{put_told}
use Rattle.engine_blocks.specs.PlainOf.{books_of}
use Rattle.engine_blocks.proofs.PlainSteps.{put_roles, put_took, marks_kept, free_kept, bit_kept, whole_kept, put_books}
use Rattle.engine_blocks.proofs.plain.PlainBlocksBlocks.put.Goals as goal

pub invariant_of-self : goal.invariant_of-self
invariant_of-self c =
    let p = c.args.self.now in
    let roles = ap (λ r. role_in (slice_set p.roles.items c.args.b r)) c.put_role.ensures ∙ put_roles p.roles.items c.args.b c.args.class c.index.result.now (omega (arith, c.requires.below, p.roles_size)) c.index.ensures in
    record {
      size = ap length c.set.ensures.now ∙ length-set p.history.now c.args.b c.args.from.now ∙ p.size;
      busy_size = p.busy_size;
      roles_size = length-set p.roles.items c.args.b c.put_role.result ∙ p.roles_size;
      whole = whole_kept p.geom.n p.history.now c.set.new.self.now c.args.b c.args.from.now c.set.ensures.now p.size c.told-from p.whole;
      live_is = omega (arith, p.live_is, free_kept p.geom p.history.now c.set.new.self.now c.args.b c.args.from.now c.set.ensures.now c.requires.from);
      accounts = p.accounts;
      unmarked = λ b free. bit_kept p.geom p.history.now c.set.new.self.now c.args.b c.args.from.now c.set.ensures.now c.requires.from b free.below ∙ p.unmarked b free;
      fits = p.fits;
      took_them = omega (arith, p.took_them, put_took p.geom (role_in p.roles.items) c.args.b c.args.class, ap (count_roles p.geom is_taken) roles);
      took_few = p.took_few;
      ready = omega (arith, p.ready, c.set.ensures.room, c.requires.room);
      floor_is = omega (arith, p.floor_is, ap length c.set.ensures.points);
    }

pub returns-clause-books : goal.returns-clause-books
returns-clause-books c =
    let p = c.args.self.now in
    put_books (books_of p) _ _ _ c.args.b c.args.class
    (ap (λ r. role_in (slice_set p.roles.items c.args.b r)) c.put_role.ensures ∙ put_roles p.roles.items c.args.b c.args.class c.index.result.now (omega (arith, c.requires.below, p.roles_size)) c.index.ensures)
    (marks_kept p.geom p.history.now c.set.new.self.now c.args.b c.args.from.now c.set.ensures.now c.requires.from)
    (ap (λ ps. length ps - 1) c.set.ensures.points)

pub returns-clause-map : goal.returns-clause-map
returns-clause-map c =
    let p = c.args.self.now in
    let b = c.args.b in
    let P : Bookkeeping → Type 0 = λ k. IsWithBlock (defined_part (books_of p) (blocks_of p.history.now)) (defined_part k (blocks_of c.set.new.self.now)) b c.args.from.now in
    λ tells. subst P (sym (returns-clause-books c)) (put_told (books_of p) (blocks_of p.history.now) (blocks_of c.set.new.self.now) b c.args.class c.args.from.now c.requires.from c.requires.below
    (λ late. ap (λ x. x && is_set p.geom (blocks_of p.history.now) b) (lt-ltb b p.geom.n c.requires.below) ∙ sym (disk_bit (books_of p) (blocks_of p.history.now) b c.requires.below) ∙ c.requires.marked refl late)
    (record {
      own = ap (λ l. blocks_of l b) c.set.ensures.now ∙ get_or-set_same p.history.now b c.args.from.now [] (omega (arith, c.requires.below, p.size));
      others = λ k d. ap (λ l. blocks_of l k) c.set.ensures.now ∙ get_or-set_other p.history.now b k c.args.from.now [] d;
    }))
