use Rattle.std.proofs.Common.{◌+◌, min, length, take, sym, ◌∙◌, subst, arith}
use Rattle.std.proofs.Math.Seq.{take-append-add}
use Rattle.std.proofs.lemmas.List.{take_min, take-append-le}
use Rattle.std.specs.Io.KnownBytes.{Appends}
use Rattle.std.proofs.KnownBytes.{Appends-trans}
use Rattle.base_io.proofs.laws.prefixes_join.Goals as goal

pub returns-clause-first : goal.returns-clause-first
returns-clause-first c = λ old new xs ys prefix.
    let n = min prefix.0 (length xs) in
    (n, subst (Appends old new) (sym (take_min prefix.0 xs) ∙ sym (take-append-le n xs ys (omega arith))) prefix.1)

pub returns-clause-second : goal.returns-clause-second
returns-clause-second c = λ old mid new xs ys all prefix.
    (length xs + prefix.0, subst (Appends old new) (sym (take-append-add xs ys prefix.0)) (Appends-trans old mid new xs (take prefix.0 ys) all prefix.1))
