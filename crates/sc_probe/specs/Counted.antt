-- Yardstick: to be compared with what it restates (docs/TRUST.md).
-- How many notes of each kind there are, and the text that tells it.
use Rattle.std.specs.Prelude.{ℕ, ◌==◌, ◌++◌, Bool, List, [], codes, decimal}
use Rattle.sc_base.specs.declared.note.Note.{Note}
use Rattle.sc_base.specs.declared.note.Note.TheVariants.{Start, Call, Back, Enter, Leave, At, Lib, Exec, Put, Birth, Death, Copy, SetReg, Tag}
use Rattle.sc_probe.specs.declared.count.Counts.{Counts}
use Rattle.sc_probe.specs.Numbers.{number_of, one_more_if}

-- the kinds of notes, numbered in the order in which they are told
abbrev pub kind : Note → ℕ
kind (Start stack heap) = 0
kind (Call fun) = 1
kind (Back fun) = 2
kind (Enter fun form) = 3
kind (Leave fun) = 4
kind (At fun line) = 5
kind (Exec pc word) = 6
kind (Put at size word) = 7
kind (Birth id size of base) = 8
kind (Death id) = 9
kind (Copy to from size) = 10
kind (SetReg r word) = 11
kind (Tag word) = 12
kind (Lib fun) = 13

abbrev pub has_kind : ℕ → Note → Bool
has_kind k n = kind n == k

-- the numbers of these notes, one for each kind
abbrev pub counts_of : List Note → Counts
counts_of notes = record {
  start = number_of (has_kind 0) notes;
  call = number_of (has_kind 1) notes;
  back = number_of (has_kind 2) notes;
  enter = number_of (has_kind 3) notes;
  leave = number_of (has_kind 4) notes;
  at = number_of (has_kind 5) notes;
  exec = number_of (has_kind 6) notes;
  put = number_of (has_kind 7) notes;
  birth = number_of (has_kind 8) notes;
  death = number_of (has_kind 9) notes;
  copy = number_of (has_kind 10) notes;
  setreg = number_of (has_kind 11) notes;
  tag = number_of (has_kind 12) notes;
  lib = number_of (has_kind 13) notes;
}

-- the numbers with one note more
abbrev pub counted : Note → Counts → Counts
counted n t = record {
  start = one_more_if (has_kind 0 n) t.start;
  call = one_more_if (has_kind 1 n) t.call;
  back = one_more_if (has_kind 2 n) t.back;
  enter = one_more_if (has_kind 3 n) t.enter;
  leave = one_more_if (has_kind 4 n) t.leave;
  at = one_more_if (has_kind 5 n) t.at;
  exec = one_more_if (has_kind 6 n) t.exec;
  put = one_more_if (has_kind 7 n) t.put;
  birth = one_more_if (has_kind 8 n) t.birth;
  death = one_more_if (has_kind 9 n) t.death;
  copy = one_more_if (has_kind 10 n) t.copy;
  setreg = one_more_if (has_kind 11 n) t.setreg;
  tag = one_more_if (has_kind 12 n) t.tag;
  lib = one_more_if (has_kind 13 n) t.lib;
}

-- a line with each kind and its number: the first seven kinds, and the others behind these
abbrev pub with_first : List ℕ → Counts → List ℕ
with_first text t =
    text ++ codes "start " ++ decimal t.start ++ codes " call " ++ decimal t.call ++ codes " back " ++ decimal t.back
    ++ codes " enter " ++ decimal t.enter ++ codes " leave " ++ decimal t.leave ++ codes " at " ++ decimal t.at
    ++ codes " exec " ++ decimal t.exec

abbrev pub with_last : List ℕ → Counts → List ℕ
with_last text t =
    text ++ codes " put " ++ decimal t.put ++ codes " birth " ++ decimal t.birth ++ codes " death " ++ decimal t.death
    ++ codes " copy " ++ decimal t.copy ++ codes " setreg " ++ decimal t.setreg ++ codes " tag " ++ decimal t.tag
    ++ codes " lib " ++ decimal t.lib

abbrev pub count_text : Counts → List ℕ
count_text t = with_last (with_first [] t) t ++ codes "\n"
