-- Each place is there, since the blocks have room; and what the bytes have goes for the entries.
use Rattle.std.proofs.Common.{◌≡◌, ℕ, List, Some, None, length, arith, subst, sym, ◌∙◌, ap}
use Rattle.base_types.specs.declared.layout.Layout.{Layout}
use Rattle.base_types.specs.LayoutLaws.{directory_holds}
use Rattle.layout_directory.specs.Directory.{has_name, IsFirstNamed}
use Rattle.layout_directory.proofs.Places.{slot_length, none_yet, named_is}
use Rattle.layout_directory.proofs.directory.find.Goals as goal

pub slot_at-requires : goal.slot_at-requires
slot_at-requires c = omega (arith, c.requires, directory_holds c.args.layout c.loop-place.place c.args.entries c.loop-place-test.true)

pub has_name-requires : goal.has_name-requires
has_name-requires c =
    ap length c.slot_at.ensures
    ∙ slot_length c.args.layout c.args.dir.now c.loop-place.place c.told-dir (omega (arith, c.requires, directory_holds c.args.layout c.loop-place.place c.args.entries c.loop-place-test.true))

-- what was looked for is the name
for_name : (l : Layout) (entries : ℕ) (blocks : List (List ℕ)) (wanted name : List ℕ) (p : _) → wanted ≡ name → IsFirstNamed l entries blocks wanted p → IsFirstNamed l entries blocks name p
for_name l entries blocks wanted name p same is = subst (λ (n : List ℕ). IsFirstNamed l entries blocks n p) same is

pub returns-then-has_name-clause-bytes : goal.returns-then-has_name-clause-bytes
returns-then-has_name-clause-bytes c =
    for_name c.args.layout c.args.entries c.args.dir.now c.as_bytes-wanted.result.now c.args.name.now (Some c.loop-place.place) c.as_bytes-wanted.ensures.value
    (c.loop-place-test.true, ap (λ s. has_name s c.as_bytes-wanted.result.now) (sym c.slot_at.ensures) ∙ sym c.has_name.ensures ∙ c.if-has_name.true, c.loop-place.invariant.1)

pub returns-then-has_name-clause-each : goal.returns-then-has_name-clause-each
returns-then-has_name-clause-each c = λ slots count e.
    named_is c.args.layout c.args.entries c.args.dir.now c.args.name.now (Some c.loop-place.place) slots c.told-dir (returns-then-has_name-clause-bytes c) count e

pub returns-then-has_name-clause-entries : goal.returns-then-has_name-clause-entries
returns-then-has_name-clause-entries c = λ slots e.
    let law = c.entries_follow_their_bytes.ensures in
    returns-then-has_name-clause-each c slots (law.count c.args.layout c.args.entries _ slots e) (law.each c.args.layout c.args.entries _ slots e)

pub loop-place-preserved : goal.loop-place-preserved
loop-place-preserved c = (
  omega (arith, c.loop-place-test.true),
  none_yet c.args.layout c.args.dir.now c.as_bytes-wanted.result.now c.loop-place.place c.loop-place.invariant.1
      (ap (λ s. has_name s c.as_bytes-wanted.result.now) (sym c.slot_at.ensures) ∙ sym c.has_name.ensures ∙ c.if-has_name.false),
)

pub returns-clause-bytes : goal.returns-clause-bytes
returns-clause-bytes c =
    for_name c.args.layout c.args.entries c.args.dir.now c.as_bytes-wanted.result.now c.args.name.now None c.as_bytes-wanted.ensures.value
    (λ k low. c.loop-place.invariant.1 k (omega (arith, low, c.loop-place-test.false)))

pub returns-clause-each : goal.returns-clause-each
returns-clause-each c = λ slots count e. named_is c.args.layout c.args.entries c.args.dir.now c.args.name.now None slots c.told-dir (returns-clause-bytes c) count e

pub returns-clause-entries : goal.returns-clause-entries
returns-clause-entries c = λ slots e.
    let law = c.entries_follow_their_bytes.ensures in
    returns-clause-each c slots (law.count c.args.layout c.args.entries _ slots e) (law.each c.args.layout c.args.entries _ slots e)
