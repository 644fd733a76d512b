-- A reader of commands is one of the lines that say them.
use Rattle.std.proofs.Common.{◌≡◌, ℕ, List, Option, Result, Ok, IfOk, sym, subst}
use Rattle.base_types.specs.declared.memory.NoMemory.{NoMemory}
use Rattle.lang_tree.specs.declared.command.Cmd.{Cmd}
use Rattle.lang_lines.specs.Lines.{longest, commands_of_line}
use Rattle.lang_lines.specs.Reading.{ReaderState, ReadsItem, ReadsOn, HoldsOn, as_item}
use Rattle.lang_lines.specs.declared.next.Next.{Next}
use Rattle.lang_lines.specs.declared.next.NextItem.{NextItem}

pub reads_command : (result : Result Next NoMemory) (next : Next) (found : NextItem Cmd) (inside old new : ReaderState) (left left_now : Option (List ℕ)) (faults faults_now : ℕ)
    → result ≡ Ok next → found ≡ as_item next → inside ≡ old → ReadsItem (commands_of_line longest) found inside new left left_now faults faults_now
    → IfOk result (λ next. ReadsOn next old new left left_now faults faults_now)
reads_command result next found inside old new left left_now faults faults_now answered is same reads =
    subst (λ (r : Result Next NoMemory). IfOk r (λ next. ReadsOn next old new left left_now faults faults_now)) (sym answered)
    (subst (λ (r : ReaderState). ReadsOn next r new left left_now faults faults_now) same
    (subst (λ (n : NextItem Cmd). ReadsItem (commands_of_line longest) n inside new left left_now faults faults_now) is reads))

pub holds_commands : (inside old new : ReaderState) (left left_now : Option (List ℕ)) → inside ≡ old → HoldsOn inside new left left_now → HoldsOn old new left left_now
holds_commands inside old new left left_now same holds = subst (λ (r : ReaderState). HoldsOn r new left left_now) same holds
