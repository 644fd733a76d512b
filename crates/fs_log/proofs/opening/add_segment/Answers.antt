use Rattle.std.proofs.Common.{rules, ◌≡◌, ◌++◌, ◌∷◌, [], ℕ, Some, refl, subst, sym, arith}
use Rattle.std.specs.FinMap.{get}
use Rattle.std.specs.BTreeSet.{contains}
use Rattle.std.specs.Ordering.{nat_cmp}
use Rattle.fs_commands.specs.Opened.{blocks_in}
use Rattle.fs_log.specs.Finding.{HasFoundSome}
use Rattle.fs_log.proofs.Added.{leads_first, leads_name, not_apart, not_next}
use Rattle.fs_log.proofs.Causes.{passed_on}
use Rattle.fs_log.proofs.Found.{found_more, is_new, not_new}
use Rattle.fs_log.proofs.Questioning.{asks_none}
use Rattle.lang_tree.specs.declared.command.Refusal.TheVariants.{NoMemory}
use Rattle.lang_log.specs.Names.{path_in_log}
use Rattle.fs_log.specs.declared.refusal.OpenRefusal.TheVariants.{Fs as FsRefused}
use Rattle.fs_log.proofs.OpenCauses.{open_lacking}
use Rattle.fs_log.proofs.opening.add_segment.Goals as goal

pub returns-in-None-clause-asks : goal.returns-in-None-clause-asks
returns-in-None-clause-asks g c = λ told.
    asks_none g.S.Blocks.state g.S.Blocks.tells (blocks_in c.args.fs.now) (c.calls_compose.ensures.rests told) (λ s trees img known left. c.a_crash_leaves_the_tree_of_a_point.ensures.now s trees img told known left)

pub returns-in-None-clause-bad : goal.returns-in-None-clause-bad
returns-in-None-clause-bad g c = λ told bad f seen behind session names so_far.
    let leads = leads_name f.tree seen behind c.args.name.now names c.names_in_a_log_lead_somewhere.ensures.held in
    c.a_tree_has_no_log_where.ensures.name f.tree c.args.name.now leads.0 leads.1 (λ first low is. c.in-None.ensures.none refl first low is)

pub returns-then-not-may_begin-clause-asks : goal.returns-then-not-may_begin-clause-asks
returns-then-not-may_begin-clause-asks g c = λ told.
    asks_none g.S.Blocks.state g.S.Blocks.tells (blocks_in c.args.fs.now) (c.calls_compose.ensures.rests told) (λ s trees img known left. c.a_crash_leaves_the_tree_of_a_point.ensures.now s trees img told known left)

pub returns-then-not-may_begin-clause-bad : goal.returns-then-not-may_begin-clause-bad
returns-then-not-may_begin-clause-bad g c = λ told bad f seen behind session names so_far.
    let other = c.if-not-may_begin.ensures.no refl in
    not_next f.tree seen behind c.args.name.now names c.names_in_a_log_lead_somewhere.ensures.held
    c.args.found.now.firsts.items c.args.found.now.size c.args.found.now.next (contains nat_cmp c.args.nodes.now) so_far c.in-Some.first c.in-Some.ensures.found (omega arith)
    c.an_append_lies_in_its_segment.ensures.next c.names_in_a_log_rise.ensures c.a_tree_has_no_log_where.ensures.row other.0 other.1

pub returns-in_err-segment-clause-bad : goal.returns-in_err-segment-clause-bad
returns-in_err-segment-clause-bad g c = λ told.
    passed_on c.from_residual.result c.in_err-segment.field-0.0 _ c.from_residual.ensures.1
    (λ bad f seen behind session names so_far.
    c.in_err-segment.ensures.bad told bad f session (leads_first f.tree seen behind c.args.name.now names c.names_in_a_log_lead_somewhere.ensures.held c.in-Some.first c.in-Some.ensures.found))

pub returns-then-not-branch-clause-bad : goal.returns-then-not-branch-clause-bad
returns-then-not-branch-clause-bad g c = λ told bad f seen behind session names so_far.
    let leads = leads_first f.tree seen behind c.args.name.now names c.names_in_a_log_lead_somewhere.ensures.held c.in-Some.first c.in-Some.ensures.found in
    let segment = c.in_ok-segment.ensures.segment told f session leads in
    not_apart f.tree seen behind c.args.name.now names c.names_in_a_log_lead_somewhere.ensures.held
    c.args.found.now.firsts.items c.args.found.now.size c.args.found.now.next (contains nat_cmp c.args.nodes.now) so_far c.in-Some.first c.in-Some.ensures.found (omega arith)
    c.an_append_lies_in_its_segment.ensures.next c.names_in_a_log_rise.ensures c.names_tell_numbers_apart.ensures c.a_tree_has_no_log_where.ensures.shared
    (c.if-not-may_begin.ensures.yes refl) c.in_ok-segment.segment.node segment.lies.at
    (not_new c.in_ok-insert.field-0 (contains nat_cmp c.args.nodes.now c.in_ok-segment.segment.node) c.in_ok-insert.ensures.added c.if-not-branch.true)

pub returns-clause-more : goal.returns-clause-more
returns-clause-more g c = λ told f seen behind session names so_far.
    let marks = contains nat_cmp c.args.nodes.now in
    let leads = leads_first f.tree seen behind c.args.name.now names c.names_in_a_log_lead_somewhere.ensures.held c.in-Some.first c.in-Some.ensures.found in
    let s = c.in_ok-segment.segment in
    let later = contains nat_cmp c.insert.new.self in
    let numbers = c.args.found.now.firsts.items in
    let pushed : c.push.new.self.items ≡ numbers ++ c.in-Some.first ∷ [] = search rules in
    subst (λ items. HasFoundSome f.tree (seen ++ c.args.name.now ∷ []) items s.size s.next later) (sym pushed)
    (subst (λ name. HasFoundSome f.tree (seen ++ name ∷ []) (numbers ++ c.in-Some.first ∷ []) s.size s.next later) (sym c.in-Some.ensures.found)
    (found_more f.tree seen numbers c.args.found.now.size c.args.found.now.next marks so_far c.in-Some.first (c.if-not-may_begin.ensures.yes refl) (omega arith)
    s.node s.size s.next (c.in_ok-segment.ensures.segment told f session leads) (omega arith) c.segments_make_a_log.ensures.lone c.segments_make_a_log.ensures.joined
    later (is_new c.in_ok-insert.field-0 (marks s.node) c.in_ok-insert.ensures.added c.if-not-branch.false) c.in_ok-insert.ensures.updates.0 c.in_ok-insert.ensures.updates.1))

pub returns-in_err-segment-clause-cause : goal.returns-in_err-segment-clause-cause
returns-in_err-segment-clause-cause g c = λ has.
    passed_on c.from_residual.result c.in_err-segment.field-0.0 _ c.from_residual.ensures.1
    (c.in_err-segment.ensures.cause (λ told. let h = has told in (h.0, h.1, subst (λ q. (n : ℕ) × (get h.0.tree.names (path_in_log q) ≡ Some n)) c.in-Some.ensures.found h.2)))

pub returns-in_err-insert-clause-cause : goal.returns-in_err-insert-clause-cause
returns-in_err-insert-clause-cause g c = λ has. passed_on c.from_residual-in_err-insert.result (FsRefused NoMemory) _ c.from_residual-in_err-insert.ensures.1 (open_lacking g.S.Blocks.tells g.S.Blocks.state (blocks_in c.args.fs.now) (blocks_in c.find_segment.new.fs) (λ told. (c.find_segment.ensures.asks told).way))

pub returns-in_err-push-clause-cause : goal.returns-in_err-push-clause-cause
returns-in_err-push-clause-cause g c = λ has. passed_on c.from_residual-in_err-push.result (FsRefused NoMemory) _ c.from_residual-in_err-push.ensures.1 (open_lacking g.S.Blocks.tells g.S.Blocks.state (blocks_in c.args.fs.now) (blocks_in c.find_segment.new.fs) (λ told. (c.find_segment.ensures.asks told).way))
