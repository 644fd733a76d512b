use Rattle.std.proofs.Common.{rules, ◌≡◌, ◌<◌, ◌≤◌, ◌+◌, ◌++◌, ◌∷◌, [], length, take, drop, refl, sym, ◌∙◌, subst, arith}
use Rattle.std.specs.BTreeSet.{contains}
use Rattle.std.specs.Ordering.{nat_cmp}
use Rattle.std.proofs.lemmas.List.{take_all}
use Rattle.fs_commands.specs.Opened.{blocks_in}
use Rattle.fs_log.specs.Finding.{HasFoundSome}
use Rattle.fs_log.proofs.Causes.{passed_on}
use Rattle.fs_log.proofs.Found.{found_all, found_none, names_so_far, next_name}
use Rattle.fs_log.proofs.Questioning.{asks_twice}
use Rattle.lang_tree.specs.declared.command.Refusal.TheVariants.{NoMemory}
use Rattle.fs_log.specs.declared.refusal.OpenRefusal.TheVariants.{Fs as FsRefused}
use Rattle.fs_log.proofs.Added.{leads_name}
use Rattle.fs_log.proofs.OpenCauses.{open_lacking, open_later}
use Rattle.fs_log.proofs.Writing.{no_time}
use Rattle.fs_log.proofs.opening.find_segments.Goals as goal

pub returns-in_err-list-clause-bad : goal.returns-in_err-list-clause-bad
returns-in_err-list-clause-bad g c = λ told.
    passed_on c.from_residual.result c.in_err-list.field-0.0 _ c.from_residual.ensures.1 (λ bad f session there. absurd (c.in_err-list.ensures.bad told bad f session there))

pub loop-name-init : goal.loop-name-init
loop-name-init g c = (
  c.find_names.ensures.follows,
  omega arith,
  λ told. c.find_names.ensures.asks told,
  λ told f session there. (
    c.names-names.ensures ∙ c.in_ok-list.ensures.names told f session there,
    found_none f.tree [] c.in_ok-with_capacity.field-0.items (contains nat_cmp c.new-nodes.result) refl (search rules) (λ n. search rules) c.segments_make_a_log.ensures.none,
  ),
)

pub loop-name-preserved : goal.loop-name-preserved
loop-name-preserved g c =
    let before = c.loop-name.invariant in
    let names = c.names-names.result.now in
    let i = c.loop-name.name-index in
    let within : i < length names = omega (arith, c.loop-name-test.true) in (
      c.add_segment.ensures.follows,
      omega (arith, within),
      λ told. asks_twice g.S.Blocks.state c.calls_compose.ensures.advances g.S.Blocks.tells (blocks_in c.args.fs.now) (blocks_in c.loop-name.fs) (blocks_in c.add_segment.new.fs) (before.2 told) (c.add_segment.ensures.asks told),
      λ told f session there.
          let b = before.3 told f session there in (
            b.0,
            subst (λ q. HasFoundSome f.tree q c.add_segment.new.found.firsts.items c.add_segment.new.found.size c.add_segment.new.found.next (contains nat_cmp c.add_segment.new.nodes)) (sym (names_so_far names i c.name-item.result within c.name-item.is))
                (c.in_ok-add_segment.ensures.more told f (take i names) (drop (i + 1) names) ((before.2 told).keeps.session f session) (sym b.0 ∙ next_name names i c.name-item.result within c.name-item.is) b.1),
          ),
    )

pub returns-in_err-add_segment-clause-asks : goal.returns-in_err-add_segment-clause-asks
returns-in_err-add_segment-clause-asks g c = λ told.
    asks_twice g.S.Blocks.state c.calls_compose.ensures.advances g.S.Blocks.tells (blocks_in c.args.fs.now) (blocks_in c.loop-name.fs) (blocks_in c.add_segment.new.fs) (c.loop-name.invariant.2 told) (c.add_segment.ensures.asks told)

pub returns-in_err-add_segment-clause-bad : goal.returns-in_err-add_segment-clause-bad
returns-in_err-add_segment-clause-bad g c = λ told.
    passed_on c.from_residual-in_err-add_segment.result c.in_err-add_segment.field-0.0 _ c.from_residual-in_err-add_segment.ensures.1
    (λ bad f session there.
    let names = c.names-names.result.now in
    let i = c.loop-name.name-index in
    let within : i < length names = omega (arith, c.loop-name-test.true) in
    let b = c.loop-name.invariant.3 told f session there in
    c.in_err-add_segment.ensures.bad told bad f (take i names) (drop (i + 1) names) ((c.loop-name.invariant.2 told).keeps.session f session) (sym b.0 ∙ next_name names i c.name-item.result within c.name-item.is) b.1)

pub returns-clause-found : goal.returns-clause-found
returns-clause-found g c = λ told f session there.
    let names = c.names-names.result.now in
    let b = c.loop-name.invariant.3 told f session there in
    let all : take c.loop-name.name-index names ≡ names = take_all c.loop-name.name-index names (omega (arith, c.loop-name-test.false)) in
    found_all c.listed_segments_are_all.ensures f.tree c.loop-name.found.firsts.items c.loop-name.found.size c.loop-name.found.next (contains nat_cmp c.loop-name.nodes) there
    (subst (λ q. HasFoundSome f.tree q c.loop-name.found.firsts.items c.loop-name.found.size c.loop-name.found.next (contains nat_cmp c.loop-name.nodes)) (all ∙ b.0) b.1)

pub returns-in_err-list-clause-cause : goal.returns-in_err-list-clause-cause
returns-in_err-list-clause-cause g c = λ has. passed_on c.from_residual.result c.in_err-list.field-0.0 _ c.from_residual.ensures.1 (c.in_err-list.ensures.cause has)

pub returns-in_err-with_capacity-clause-cause : goal.returns-in_err-with_capacity-clause-cause
returns-in_err-with_capacity-clause-cause g c = λ has. passed_on c.from_residual-in_err-with_capacity.result (FsRefused NoMemory) _ c.from_residual-in_err-with_capacity.ensures.1 (open_lacking g.S.Blocks.tells g.S.Blocks.state (blocks_in c.args.fs.now) (blocks_in c.find_names.new.fs) (λ told. (c.find_names.ensures.asks told).way))

pub returns-in_err-add_segment-clause-cause : goal.returns-in_err-add_segment-clause-cause
returns-in_err-add_segment-clause-cause g c = λ has.
    let before = c.loop-name.invariant in
    let names = c.names-names.result.now in
    let i = c.loop-name.name-index in
    let within : i < length names = omega (arith, c.loop-name-test.true) in
    passed_on c.from_residual-in_err-add_segment.result c.in_err-add_segment.field-0.0 _ c.from_residual-in_err-add_segment.ensures.1
    (open_later g.S.Blocks.tells g.S.Blocks.state c.calls_compose.ensures.advances (λ told s. no_time g.S.Blocks.state (c.calls_compose.ensures.rests told) s) c.in_err-add_segment.field-0.0 (blocks_in c.args.fs.now) (blocks_in c.loop-name.fs) (blocks_in c.add_segment.new.fs) before.2
    (c.in_err-add_segment.ensures.cause (λ told.
    let h = has told in
    let b = before.3 told h.0 h.1 h.2 in (
      h.0,
      (before.2 told).keeps.session h.0 h.1,
      leads_name h.0.tree (take i names) (drop (i + 1) names) c.name-item.result (sym b.0 ∙ next_name names i c.name-item.result within c.name-item.is) c.names_in_a_log_lead_somewhere.ensures.held,
    ))))
