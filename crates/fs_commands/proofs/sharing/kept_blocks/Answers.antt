use Rattle.std.proofs.Common.{rules, ◌≡◌, ◌≤◌, IsTrue, [], ◌-◌, ℕ, Bool, List, None, length, sym, ap, ◌∙◌, arith, slice_get, option_map}
use Rattle.std.proofs.lemmas.Bool.Decides.{nat_tests}
use Rattle.fs_files.specs.declared.node_blocks.OpenFile.{OpenFile}
use Rattle.fs_files.specs.Calls.{facts_of, files_in, places_in}
use Rattle.fs_commands.specs.Figures.{kept_places}
use Rattle.fs_session.specs.Commands.{places_of}
use Rattle.fs_commands.proofs.counting.Touched.{count, count_none, count_rest, kept_by_none, kept_past}
use Rattle.fs_commands.proofs.counting.Nodes.{no_places}
use Rattle.fs_commands.proofs.sharing.kept_blocks.Given as given
use Rattle.fs_commands.proofs.sharing.kept_blocks.Goals as goal
use Rattle.fs_commands.proofs.sharing.kept_blocks.Goals.{Then-is_empty, After-drop-draft-inside-5}

-- the places of the node that are kept
abbrev shares : (g : given.Over) (c : goal.Then-is_empty g) → ℕ → Bool
shares g c = kept_places c.args.shared.now (places_of (g.S.Blocks.state c.args.blocks.now) c.args.number)

none_kept : (g : given.Over) (c : goal.Then-is_empty g) → count (shares g c) c.args.from c.args.count ≡ 0
none_kept g c =
    let places = places_of (g.S.Blocks.state c.args.blocks.now) c.args.number in
    let empty : length c.args.shared.now ≡ 0 = grind (arith, nat_tests, c.is_empty.ensures, c.if-is_empty.true) in
    count_none (shares g c) c.args.from c.args.count (λ i above below. kept_by_none c.args.shared.now empty (slice_get places i))

pub returns-then-is_empty-clause-kept : goal.returns-then-is_empty-clause-kept
returns-then-is_empty-clause-kept g c = λ told. sym (none_kept g c)

pub returns-then-is_empty-clause-rest : goal.returns-then-is_empty-clause-rest
returns-then-is_empty-clause-rest g c = λ told. count_rest (shares g c) c.args.from c.args.count ∙ ap (λ n. c.args.count - n) (none_kept g c)

pub returns-in-Some-clause-rest : goal.returns-in-Some-clause-rest
returns-in-Some-clause-rest g c = λ told.
    let s = g.S.Blocks.state c.args.blocks.now in
    let kept = kept_places c.args.shared.now (places_of s c.args.number) in
    let same : c.kept_in.result ≡ count kept c.args.from c.args.count = search rules in
    count_rest kept c.args.from c.args.count ∙ ap (λ n. c.args.count - n) (sym same)

-- where the node isn't in use
unused : (g : given.Over) (c : goal.After-drop-draft-inside-5 g) → IsTrue g.S.Blocks.tells → count (kept_places c.args.shared.now (places_of (g.S.Blocks.state c.args.blocks.now) c.args.number)) c.args.from c.args.count ≡ 0
unused g c told =
    let s = g.S.Blocks.state c.args.blocks.now in
    let places = places_of s c.args.number in
    let facts : option_map {T = OpenFile} (λ f. f.facts) c.in_ok-file.field-0 ≡ option_map facts_of (files_in s c.beside-draft.result c.args.number) = c.in_ok-file.ensures.facts told in
    let none : None ≡ option_map facts_of (files_in s c.beside-draft.result c.args.number) = sym (ap (option_map {T = OpenFile} (λ f. f.facts)) c.in-None.is) ∙ facts in
    let empty : places ≡ [] = ap (λ d. places_in s d c.args.number) (sym c.beside-draft.ensures) ∙ no_places s c.beside-draft.result c.args.number none in
    count_none (kept_places c.args.shared.now places) c.args.from c.args.count (λ i above below. kept_past c.args.shared.now places i (omega (arith, ap (λ (xs : List ℕ). length xs) empty)))

pub returns-clause-kept : goal.returns-clause-kept
returns-clause-kept g c = λ told. sym (unused g (goal.at.returns-clause-kept g c).After-drop-draft-inside-5 told)

pub returns-clause-rest : goal.returns-clause-rest
returns-clause-rest g c = λ told.
    let kept = kept_places c.args.shared.now (places_of (g.S.Blocks.state c.args.blocks.now) c.args.number) in
    count_rest kept c.args.from c.args.count ∙ ap (λ n. c.args.count - n) (unused g c told)
