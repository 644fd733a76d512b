-- The entries are read where the block's count says how many there are.
use Rattle.std.proofs.Common.{◌≡◌, drop, take, true, ◌∙◌, ap, sym, arith, Some, None}
use Rattle.std.proofs.lemmas.List.{length-take-le, length-drop}
use Rattle.layout_bytes.specs.Bytes.{field}
use Rattle.base_types.specs.Seal.{is_sealed}
use Rattle.layout_journal.specs.Layout.{descriptor_fits, entries_in}
use Rattle.layout_journal.proofs.ReadEntries.{descriptor_by}
use Rattle.layout_journal.proofs.read.descriptor_in.Goals as goal

pub entries_in-requires-clause-few : goal.entries_in-requires-clause-few
entries_in-requires-clause-few c =
    let count : c.number_4-count.result ≡ field c.args.block.now 28 4 = c.number_4-count.ensures ∙ ap (λ b. field b 28 4) c.as_slice.ensures in
    omega (arith, count, c.descriptor_fits.ensures.few c.if-not-descriptor_fits.false)

pub entries_in-requires-clause-within : goal.entries_in-requires-clause-within
entries_in-requires-clause-within c =
    let count : c.number_4-count.result ≡ field c.args.block.now 28 4 = c.number_4-count.ensures ∙ ap (λ b. field b 28 4) c.as_slice.ensures in
    let behind = length-drop 32 c.args.block.now in
    let rest = length-take-le 992 (drop 32 c.args.block.now) (omega (arith, behind, c.told-block)) in
    omega (arith, count, rest, c.descriptor_fits.ensures.few c.if-not-descriptor_fits.false)

pub returns-in_err-entries : goal.returns-in_err-entries
returns-in_err-entries c =
    let count : c.number_4-count.result ≡ field c.args.block.now 28 4 = c.number_4-count.ensures ∙ ap (λ b. field b 28 4) c.as_slice.ensures in
    let sealed : is_sealed c.args.block.now ≡ true = sym c.is_sealed.ensures ∙ c.if-not-is_sealed.false in
    let fits : descriptor_fits c.args.block.now ≡ true = sym c.descriptor_fits.ensures.exact ∙ c.if-not-descriptor_fits.false in
    c.from_residual.ensures
    ∙ descriptor_by c.args.geom.now c.args.block.now None sealed fits c.told-block
    (sym c.in_err-entries.was ∙ c.entries_in.ensures ∙ ap (λ n. entries_in c.args.geom.now n (take 992 (drop 32 c.args.block.now))) count)

pub returns : goal.returns
returns c =
    let count : c.number_4-count.result ≡ field c.args.block.now 28 4 = c.number_4-count.ensures ∙ ap (λ b. field b 28 4) c.as_slice.ensures in
    let sealed : is_sealed c.args.block.now ≡ true = sym c.is_sealed.ensures ∙ c.if-not-is_sealed.false in
    let fits : descriptor_fits c.args.block.now ≡ true = sym c.descriptor_fits.ensures.exact ∙ c.if-not-descriptor_fits.false in
    c.descriptor_with.ensures
    ∙ descriptor_by c.args.geom.now c.args.block.now (Some c.in_ok-entries.entries) sealed fits c.told-block
    (sym c.in_ok-entries.was ∙ c.entries_in.ensures ∙ ap (λ n. entries_in c.args.geom.now n (take 992 (drop 32 c.args.block.now))) count)
