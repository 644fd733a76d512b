-- How the reasons of refusals are written: each has a number, a name, and a text for people. They are described in docs/TREE.md.
use Rattle.std.specs.Prelude.{ℕ, List, ◌++◌, codes, decimal}
use Rattle.lang_tree.specs.declared.command.Refusal.{Refusal}
use Rattle.lang_tree.specs.declared.command.Refusal.TheVariants.{NotFound, Exists, NotDir, IsDir, NotEmpty, BelowItself, TooLarge, TooManyLinks, NoNode, Full, TooBig, Scattered, ReadFault, DiskFault, Stopped, Spent, NoMemory, NameTooLong, NoPoint, NoSnap}

-- the number by which the trace names the reason
abbrev pub refusal_number : Refusal → ℕ
refusal_number NotFound = 1
refusal_number Exists = 2
refusal_number NotDir = 3
refusal_number IsDir = 4
refusal_number NotEmpty = 5
refusal_number BelowItself = 6
refusal_number TooLarge = 7
refusal_number TooManyLinks = 8
refusal_number NoNode = 9
refusal_number (Full need left) = 10
refusal_number (TooBig weight cost room) = 11
refusal_number (Scattered runs) = 12
refusal_number ReadFault = 13
refusal_number DiskFault = 14
refusal_number Stopped = 15
refusal_number Spent = 16
refusal_number NoMemory = 17
refusal_number NameTooLong = 18
refusal_number (NoPoint last) = 19
refusal_number NoSnap = 20

-- the reason's name
abbrev pub refusal_name : Refusal → List ℕ
refusal_name NotFound = codes "NotFound"
refusal_name Exists = codes "Exists"
refusal_name NotDir = codes "NotDir"
refusal_name IsDir = codes "IsDir"
refusal_name NotEmpty = codes "NotEmpty"
refusal_name BelowItself = codes "BelowItself"
refusal_name TooLarge = codes "TooLarge"
refusal_name TooManyLinks = codes "TooManyLinks"
refusal_name NoNode = codes "NoNode"
refusal_name (Full need left) = codes "Full"
refusal_name (TooBig weight cost room) = codes "TooBig"
refusal_name (Scattered runs) = codes "Scattered"
refusal_name ReadFault = codes "ReadFault"
refusal_name DiskFault = codes "DiskFault"
refusal_name Stopped = codes "Stopped"
refusal_name Spent = codes "Spent"
refusal_name NoMemory = codes "NoMemory"
refusal_name NameTooLong = codes "NameTooLong"
refusal_name (NoPoint last) = codes "NoPoint"
refusal_name NoSnap = codes "NoSnap"

-- what is wrong, in words for people
abbrev pub refusal_text : Refusal → List ℕ
refusal_text NotFound = codes "there is no such file or directory"
refusal_text Exists = codes "the path is there already"
refusal_text NotDir = codes "what should be a directory is none"
refusal_text IsDir = codes "what should be a file is a directory"
refusal_text NotEmpty = codes "the directory holds names"
refusal_text BelowItself = codes "a directory can't go below itself, nor the root away"
refusal_text TooLarge = codes "the file would have more than 1 GiB"
refusal_text TooManyLinks = codes "the file has 65535 paths already"
refusal_text NoNode = codes "all node numbers are used"
refusal_text (Full need left) = (codes "the command needs " ++ decimal need ++ codes " blocks") ++ (codes ", and " ++ decimal left ++ codes " are left")
refusal_text (TooBig weight cost room) =
    (codes "the command costs " ++ decimal cost)
    ++ ((codes ", and what changed since the last sync point " ++ decimal weight) ++ (codes ", where a record has room for " ++ decimal room))
refusal_text (Scattered runs) = codes "the blocks of the file would be in " ++ decimal runs ++ codes " stretches"
refusal_text ReadFault = codes "the disk failed to read"
refusal_text DiskFault = codes "the disk failed, and the session ends"
refusal_text Stopped = codes "the session has ended by a fault of the disk"
refusal_text Spent = codes "the numbers of the journal are used up"
refusal_text NoMemory = codes "out of memory"
refusal_text NameTooLong = codes "the name is too long for the layout of the disk"
refusal_text (NoPoint last) = codes "there is no such sync point, and the last one is " ++ decimal last
refusal_text NoSnap = codes "there is no snapshot of this name"
