-- The spot tells where the payload is.
use Rattle.std.proofs.Common.{rules, vec_len, ◌≡◌, ◌-◌, length, slice_get, Some, None, map, refl, sym, ◌∙◌, ap, arith}
use Rattle.std.specs.VecDeque.{deque_len}
use Rattle.std.proofs.lemmas.Option.{slice_get_read, slice_get_within, same_Some}
use Rattle.engine_running.specs.declared.put.Put.{Put}
use Rattle.engine_running.specs.declared.states.Sure.{Sure}
use Rattle.engine_checkpoint.specs.Kept.{of_sure}
use Rattle.engine_checkpoint.specs.Index.{newest_spot}
use Rattle.engine_checkpoint.proofs.RecordSpots.{spot_in_row, spot_of_first, same_place, own_sure}
use Rattle.engine_checkpoint.proofs.batch.newest_bytes.Goals as goal

pub overflow_sub-spot : goal.overflow_sub-spot
overflow_sub-spot c =
    let ss = c.args.records.now.items in
    let s = c.unwrap-spot.result in
    let found : newest_spot None (map of_sure ss) c.args.block ≡ Some s = sym (c.requires.at c.args.block) ∙ sym c.get.ensures ∙ c.unwrap-spot.ensures in
    let r = spot_of_first ss c.args.block s found in
    let first : slice_get ss 0 ≡ Some c.index.result.now = slice_get_read ss (length ss) 0 c.index.result.now refl r c.index.ensures in
    let here = spot_in_row ss c.index.result.now c.args.block s c.requires.row first found in
    omega (arith, here.number)

pub index-sure-requires : goal.index-sure-requires
index-sure-requires c =
    let ss = c.args.records.now.items in
    let s = c.unwrap-spot.result in
    let found : newest_spot None (map of_sure ss) c.args.block ≡ Some s = sym (c.requires.at c.args.block) ∙ sym c.get.ensures ∙ c.unwrap-spot.ensures in
    let first : slice_get ss 0 ≡ Some c.index.result.now = slice_get_read ss (length ss) 0 c.index.result.now refl (spot_of_first ss c.args.block s found) c.index.ensures in
    let here = spot_in_row ss c.index.result.now c.args.block s c.requires.row first found in
    let size : deque_len c.args.records.now ≡ length ss = search rules in
    omega (arith, here.number, size, slice_get_within ss here.place here.sure here.is)

pub index-requires-2 : goal.index-requires-2
index-requires-2 c =
    let ss = c.args.records.now.items in
    let s = c.unwrap-spot.result in
    let found : newest_spot None (map of_sure ss) c.args.block ≡ Some s = sym (c.requires.at c.args.block) ∙ sym c.get.ensures ∙ c.unwrap-spot.ensures in
    let first : slice_get ss 0 ≡ Some c.index.result.now = slice_get_read ss (length ss) 0 c.index.result.now refl (spot_of_first ss c.args.block s found) c.index.ensures in
    let here = spot_in_row ss c.index.result.now c.args.block s c.requires.row first found in
    let is : slice_get ss (s.number - c.index.result.now.number) ≡ Some c.index-sure.result.now = same_place ss here.place (s.number - c.index.result.now.number) here.sure c.index-sure.result.now (omega (arith, here.number)) here.is c.index-sure.ensures in
    let at : slice_get c.index-sure.result.now.payloads.items s.at ≡ Some here.put = ap (λ (x : Sure). slice_get x.payloads.items s.at) (own_sure ss here.place (s.number - c.index.result.now.number) c.index-sure.result.now here.sure (omega (arith, here.number)) is here.is) ∙ here.at in
    let size : vec_len c.index-sure.result.now.payloads ≡ length c.index-sure.result.now.payloads.items = search rules in
    omega (arith, size, slice_get_within c.index-sure.result.now.payloads.items s.at here.put at)

pub returns : goal.returns
returns c =
    let ss = c.args.records.now.items in
    let s = c.unwrap-spot.result in
    let found : newest_spot None (map of_sure ss) c.args.block ≡ Some s = sym (c.requires.at c.args.block) ∙ sym c.get.ensures ∙ c.unwrap-spot.ensures in
    let first : slice_get ss 0 ≡ Some c.index.result.now = slice_get_read ss (length ss) 0 c.index.result.now refl (spot_of_first ss c.args.block s found) c.index.ensures in
    let here = spot_in_row ss c.index.result.now c.args.block s c.requires.row first found in
    let is : slice_get ss (s.number - c.index.result.now.number) ≡ Some c.index-sure.result.now = same_place ss here.place (s.number - c.index.result.now.number) here.sure c.index-sure.result.now (omega (arith, here.number)) here.is c.index-sure.ensures in
    let at : slice_get c.index-sure.result.now.payloads.items s.at ≡ Some here.put = ap (λ (x : Sure). slice_get x.payloads.items s.at) (own_sure ss here.place (s.number - c.index.result.now.number) c.index-sure.result.now here.sure (omega (arith, here.number)) is here.is) ∙ here.at in
    let own : slice_get c.index-sure.result.now.payloads.items s.at ≡ Some c.index-2.result.now = slice_get_read c.index-sure.result.now.payloads.items (length c.index-sure.result.now.payloads.items) s.at c.index-2.result.now refl (slice_get_within c.index-sure.result.now.payloads.items s.at here.put at) c.index-2.ensures in
    here.bytes ∙ ap (λ (q : Put). Some q.bytes) (same_Some here.put c.index-2.result.now (sym at ∙ own)) ∙ ap Some (sym c.bytes.ensures.bytes)
