use Rattle.std.proofs.Common.{◌≡◌, map, Some, refl, sym, subst, ap, ◌∙◌, arith}
use Rattle.std.proofs.lemmas.List.Sorted.{IsPermutation-map}
use Rattle.std.specs.List.Sorted.{IsPermutation}
use Rattle.layout_bytes.specs.declared.slot.Slot.{Slot}
use Rattle.crash_stands.specs.Inodes.{ADir}
use Rattle.crash_stands.specs.Walks.{LeadsTo}
use Rattle.fs_commands.specs.declared.listing.Frame.{Frame}
use Rattle.fs_commands.specs.Listing.{turns_in}
use Rattle.fs_commands.proofs.listed.Walks.{turns_join}
use Rattle.fs_commands.proofs.listed.Steps.{into_dir}
use Rattle.fs_commands.proofs.listing.enter.Goals as goal

pub returns-clause-enters : goal.returns-clause-enters
returns-clause-enters g c = λ told m t slots h leads dir some frames depth.
    let s = g.S.Blocks.state c.args.blocks.now in
    let path = c.args.walk.now.path.items in
    let laws = c.the_map_gives_the_names.ensures in
    let here = sym (ap (λ f. f c.args.number) h.same) ∙ dir in
    let shuffled = c.in_ok-entries.ensures.all told slots here in
    let sorted = laws.sorted s.books.geom.i m t path c.args.number slots _ h.map leads dir (IsPermutation-map (λ (s : Slot). s.name) slots _ shuffled) c.in_ok-entries.ensures.sorted in
    let number = sym (ap (λ (f : Frame). f.dir) c.entered.ensures.value) in
    let same = ap (λ (f : Frame). f.entries.items) c.entered.ensures.value in
    into_dir m t c.args.walk.now _ c.entered.result slots refl c.in_ok-push.ensures.items (omega (arith, some)) (ap (λ (f : Frame). f.next) c.entered.ensures.value)
    (subst (IsPermutation slots) (sym same) shuffled) (ap (map (λ (s : Slot). s.name)) same ∙ sym sorted ∙ laws.names s.books.geom.i m t path c.args.number slots h.map leads dir)
    (subst (λ n. LeadsTo m path n) number leads) (subst (λ n. m n ≡ Some (ADir slots)) number dir) frames depth

pub returns-clause-turns : goal.returns-clause-turns
returns-clause-turns g c = omega (arith, ap turns_in c.in_ok-push.ensures.items, turns_join c.args.walk.now.frames.items c.entered.result, c.entered.ensures.turns, c.if-walk-eq0.false)
