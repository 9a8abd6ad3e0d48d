-- The cases P1 to P12, and cases about the one memory.
use Rattle.std.specs.Prelude.{Bool, true, false, List, [], ◌∷◌, ℕ, replicate, set}
use Rattle.run_state.specs.ReportKind.{BPT, TTRAP}
use Rattle.rules.specs.Step.{Call, report, store}
use Rattle.cases.specs.Case.{Case, Seen, nothing, debuggers, vector, counts, saved, begins, moves, progress, buffer, line_buffer, sent, asked, answer, noticed, silent, stored}
use Rattle.state.specs.Layout.{capacity}

-- process 2 alone
abbrev pub second : List Bool
second = false ∷ false ∷ true ∷ false ∷ false ∷ false ∷ false ∷ false ∷ []

-- every process has 4,096 bytes
abbrev pub whole : List ℕ
whole = replicate 8 4096

-- the lent memory, all zero
abbrev pub zeros : List ℕ
zeros = replicate capacity 0

-- NOP by host 5
abbrev pub nop : List ℕ
nop = 0 ∷ 5 ∷ 255 ∷ 0 ∷ 0 ∷ 0 ∷ 0 ∷ 0 ∷ 0 ∷ 0 ∷ []

-- DEBUG of process 2 by host 5
abbrev pub debug : List ℕ
debug = 0 ∷ 5 ∷ 255 ∷ 0 ∷ 1 ∷ 2 ∷ 0 ∷ 0 ∷ 0 ∷ 0 ∷ []

-- the same by host 6
abbrev pub debug_by_six : List ℕ
debug_by_six = 0 ∷ 6 ∷ 255 ∷ 0 ∷ 1 ∷ 2 ∷ 0 ∷ 0 ∷ 0 ∷ 0 ∷ []

-- eight zeros: nobody debugs a process, or no entry has a count
abbrev pub none : List ℕ
none = replicate 8 0

-- host 5 debugs process 2, and nobody any other
abbrev pub five : List ℕ
five = 0 ∷ 0 ∷ 5 ∷ 0 ∷ 0 ∷ 0 ∷ 0 ∷ 0 ∷ []

-- P1: 'comes back the same'
abbrev pub nop_case : Case
nop_case = record { there = second; sizes = whole; lent = zeros; calls = sent nop ∷ []; places = []; looks = debuggers; seen = answer 0 nop [] none ∷ [] }

-- P2, P3, P4: from the first on host 5 debugs process 2
abbrev pub debug_case : Case
debug_case = record {
  there = second;
  sizes = whole;
  lent = zeros;
  places = [];
  looks = debuggers;
  calls = sent debug ∷ sent debug_by_six ∷ sent debug ∷ [];
  seen = answer 0 debug [] five ∷ answer 8 (0 ∷ 6 ∷ 255 ∷ 0 ∷ 129 ∷ 2 ∷ 0 ∷ 0 ∷ 0 ∷ 0 ∷ []) [] five ∷ answer 0 debug [] five ∷ [];
}

-- P5, P6: EXAMINE at 4,092 count 4, at 4,093 count 4, at 4,096 count 0; process 2 is
-- the first in memory, and its last bytes are 1, 2, 3, 4
abbrev pub examine_case : Case
examine_case = record {
  there = second;
  sizes = whole;
  lent = set (set (set (set zeros 4092 1) 4093 2) 4094 3) 4095 4;
  places = [];
  looks = nothing;
  calls = sent debug ∷ asked 5 6 2 4092 4 [] ∷ asked 5 6 2 4093 4 [] ∷ asked 5 6 2 4096 0 [] ∷ [];
  seen = answer 0 debug [] []
      ∷ answer 0 (0 ∷ 5 ∷ 255 ∷ 0 ∷ 6 ∷ 2 ∷ 15 ∷ 252 ∷ 0 ∷ 4 ∷ 1 ∷ 2 ∷ 3 ∷ 4 ∷ []) [] []
      ∷ answer 10 (0 ∷ 5 ∷ 255 ∷ 0 ∷ 134 ∷ 2 ∷ 15 ∷ 253 ∷ 0 ∷ 4 ∷ []) [] []
      ∷ answer 0 (0 ∷ 5 ∷ 255 ∷ 0 ∷ 6 ∷ 2 ∷ 16 ∷ 0 ∷ 0 ∷ 0 ∷ []) [] []
      ∷ [];
}

-- the lent memory with the word 18, 52 at 256 of process 2, which is the first in memory
abbrev pub word : List ℕ
word = set (set zeros 256 18) 257 52

-- P7, P8: BREAK 256, EXAMINE, DEPOSIT 99 at 257, UNBREAK; in memory, and the saved word
abbrev pub break_case : Case
break_case = record {
  there = second;
  sizes = whole;
  lent = word;
  places = 256 ∷ 257 ∷ [];
  looks = saved;
  calls = sent debug ∷ asked 5 8 2 256 0 [] ∷ asked 5 6 2 256 2 [] ∷ asked 5 4 2 257 1 (99 ∷ []) ∷ asked 5 9 2 256 0 [] ∷ [];
  seen = answer 0 debug (18 ∷ 52 ∷ []) (0 ∷ 0 ∷ [])
      ∷ answer 0 (0 ∷ 5 ∷ 255 ∷ 0 ∷ 8 ∷ 2 ∷ 1 ∷ 0 ∷ 0 ∷ 0 ∷ []) (3 ∷ 0 ∷ []) (18 ∷ 52 ∷ [])
      ∷ answer 0 (0 ∷ 5 ∷ 255 ∷ 0 ∷ 6 ∷ 2 ∷ 1 ∷ 0 ∷ 0 ∷ 2 ∷ 18 ∷ 52 ∷ []) (3 ∷ 0 ∷ []) (18 ∷ 52 ∷ [])
      ∷ answer 0 (0 ∷ 5 ∷ 255 ∷ 0 ∷ 4 ∷ 2 ∷ 1 ∷ 1 ∷ 0 ∷ 1 ∷ []) (3 ∷ 0 ∷ []) (18 ∷ 99 ∷ [])
      ∷ answer 0 (0 ∷ 5 ∷ 255 ∷ 0 ∷ 9 ∷ 2 ∷ 1 ∷ 0 ∷ 0 ∷ 0 ∷ []) (18 ∷ 99 ∷ []) (0 ∷ 0 ∷ [])
      ∷ [];
}

-- BREAK at this address of process 2
abbrev pub break : ℕ → ℕ → Call
break a count = asked 5 8 2 a count []

-- the reply to BREAK at this address, while no entry has a count
abbrev pub broken : ℕ → Seen
broken a = answer 0 (0 ∷ 5 ∷ 255 ∷ 0 ∷ 8 ∷ 2 ∷ 0 ∷ a ∷ 0 ∷ 0 ∷ []) [] none

-- P9: 'Ninth address is 11; a new count for one of the eight is granted.' The address 6 is in the fourth entry
abbrev pub ninth_case : Case
ninth_case = record {
  there = second;
  sizes = whole;
  lent = zeros;
  places = [];
  looks = counts;
  calls = sent debug ∷ break 0 0 ∷ break 2 0 ∷ break 4 0 ∷ break 6 0 ∷ break 8 0 ∷ break 10 0 ∷ break 12 0 ∷ break 14 0 ∷ break 16 0 ∷ break 6 1 ∷ [];
  seen = answer 0 debug [] none ∷ broken 0 ∷ broken 2 ∷ broken 4 ∷ broken 6 ∷ broken 8 ∷ broken 10 ∷ broken 12 ∷ broken 14
      ∷ answer 11 (0 ∷ 5 ∷ 255 ∷ 0 ∷ 136 ∷ 2 ∷ 0 ∷ 16 ∷ 0 ∷ 0 ∷ []) [] none
      ∷ answer 0 (0 ∷ 5 ∷ 255 ∷ 0 ∷ 8 ∷ 2 ∷ 0 ∷ 6 ∷ 0 ∷ 1 ∷ []) [] (0 ∷ 0 ∷ 0 ∷ 1 ∷ 0 ∷ 0 ∷ 0 ∷ 0 ∷ [])
      ∷ [];
}

-- a vector with PC 256
abbrev pub words : List ℕ
words = 1 ∷ 2 ∷ 3 ∷ 4 ∷ 5 ∷ 6 ∷ 7 ∷ 256 ∷ 513 ∷ []

-- a BPT report of process 2 with that vector
abbrev pub reached : Call
reached = report 2 BPT 0 words buffer line_buffer

-- the vector after the instruction at 256, of two bytes
abbrev pub words_then : List ℕ
words_then = 1 ∷ 2 ∷ 3 ∷ 4 ∷ 5 ∷ 6 ∷ 7 ∷ 258 ∷ 513 ∷ []

-- a TTRAP report of process 2 with that vector
abbrev pub executed : Call
executed = report 2 TTRAP 0 words_then buffer line_buffer

-- P10: 'Count 2, running: the first two BPT reports there send nothing, the third sends ..', and 'Case P10 becomes BPT, TTRAP, BPT, TTRAP,
-- BPT'. After each of the first two BPT reports it is passing with the word put back, after each TTRAP it runs with the breakpoint planted
-- again, and after the third BPT it is at the planted breakpoint
abbrev pub count_case : Case
count_case = record {
  there = second;
  sizes = whole;
  lent = word;
  places = 256 ∷ 257 ∷ [];
  looks = progress;
  calls = sent debug ∷ break 256 2 ∷ reached ∷ executed ∷ reached ∷ executed ∷ reached ∷ [];
  seen = answer 0 debug (18 ∷ 52 ∷ []) (0 ∷ 0 ∷ 0 ∷ replicate 9 0)
      ∷ answer 0 (0 ∷ 5 ∷ 255 ∷ 0 ∷ 8 ∷ 2 ∷ 1 ∷ 0 ∷ 0 ∷ 2 ∷ []) (3 ∷ 0 ∷ []) (0 ∷ 2 ∷ 0 ∷ replicate 9 0)
      ∷ silent (18 ∷ 52 ∷ []) (5 ∷ 1 ∷ 1 ∷ words)
      ∷ silent (3 ∷ 0 ∷ []) (0 ∷ 1 ∷ 0 ∷ words_then)
      ∷ silent (18 ∷ 52 ∷ []) (5 ∷ 0 ∷ 1 ∷ words)
      ∷ silent (3 ∷ 0 ∷ []) (0 ∷ 0 ∷ 0 ∷ words_then)
      ∷ noticed (0 ∷ 5 ∷ 255 ∷ 0 ∷ 66 ∷ 2 ∷ 0 ∷ 0 ∷ 0 ∷ 0 ∷ 1 ∷ 0 ∷ 2 ∷ 0 ∷ 3 ∷ 0 ∷ 4 ∷ 0 ∷ 5 ∷ 0 ∷ 6 ∷ 0 ∷ 7 ∷ 0 ∷ 0 ∷ 1 ∷ 1 ∷ 2 ∷ []) (3 ∷ 0 ∷ []) (3 ∷ 0 ∷ 0 ∷ words)
      ∷ [];
}

-- the lent memory, every byte 7
abbrev pub sevens : List ℕ
sevens = replicate capacity 7

-- CREATE of so many bytes by host 5
abbrev pub create : ℕ → Call
create size = asked 5 12 0 size 0 []

-- CREATED with this number, of 2,048 bytes
abbrev pub created : ℕ → List ℕ → List ℕ → Seen
created p = answer 0 (0 ∷ 5 ∷ 255 ∷ 0 ∷ 12 ∷ p ∷ 8 ∷ 0 ∷ 0 ∷ 0 ∷ [])

-- P11: 'Processes 0, 1, 3 there: CREATE gives 2. With all there ..'; 'P11's eight have 2,048 bytes each.' Every byte of memory is 7 at the
-- start; the first and the last byte of the processes 2 and 7 are looked at, and the bytes on both sides of process 2
abbrev pub create_case : Case
create_case = record {
  there = true ∷ true ∷ false ∷ true ∷ false ∷ false ∷ false ∷ false ∷ [];
  sizes = replicate 8 2048;
  lent = sevens;
  places = 6143 ∷ 6144 ∷ 8191 ∷ 8192 ∷ 14336 ∷ 16383 ∷ [];
  looks = debuggers;
  calls = create 2048 ∷ create 2048 ∷ create 2048 ∷ create 2048 ∷ create 2048 ∷ create 0 ∷ [];
  seen = created 2 (7 ∷ 0 ∷ 0 ∷ 7 ∷ 7 ∷ 7 ∷ []) five
      ∷ created 4 (7 ∷ 0 ∷ 0 ∷ 0 ∷ 7 ∷ 7 ∷ []) (0 ∷ 0 ∷ 5 ∷ 0 ∷ 5 ∷ 0 ∷ 0 ∷ 0 ∷ [])
      ∷ created 5 (7 ∷ 0 ∷ 0 ∷ 0 ∷ 7 ∷ 7 ∷ []) (0 ∷ 0 ∷ 5 ∷ 0 ∷ 5 ∷ 5 ∷ 0 ∷ 0 ∷ [])
      ∷ created 6 (7 ∷ 0 ∷ 0 ∷ 0 ∷ 7 ∷ 7 ∷ []) (0 ∷ 0 ∷ 5 ∷ 0 ∷ 5 ∷ 5 ∷ 5 ∷ 0 ∷ [])
      ∷ created 7 (7 ∷ 0 ∷ 0 ∷ 0 ∷ 0 ∷ 0 ∷ []) (0 ∷ 0 ∷ 5 ∷ 0 ∷ 5 ∷ 5 ∷ 5 ∷ 5 ∷ [])
      ∷ answer 13 (0 ∷ 5 ∷ 255 ∷ 0 ∷ 140 ∷ 0 ∷ 0 ∷ 0 ∷ 0 ∷ 0 ∷ []) (7 ∷ 0 ∷ 0 ∷ 0 ∷ 0 ∷ 0 ∷ []) (0 ∷ 0 ∷ 5 ∷ 0 ∷ 5 ∷ 5 ∷ 5 ∷ 5 ∷ [])
      ∷ [];
}

-- a vector of zeros but for PS, which is the bytes 8, 9, low byte first
abbrev pub deposited : List ℕ
deposited = 0 ∷ 0 ∷ 0 ∷ 0 ∷ 0 ∷ 0 ∷ 0 ∷ 0 ∷ 2312 ∷ []

-- P12: 'Vector deposit at 16 of 2 bytes granted; at 17, 10.'
abbrev pub vector_case : Case
vector_case = record {
  there = second;
  sizes = whole;
  lent = zeros;
  places = [];
  looks = vector;
  calls = sent debug ∷ asked 5 7 2 16 2 (8 ∷ 9 ∷ []) ∷ asked 5 7 2 17 2 (8 ∷ 9 ∷ []) ∷ [];
  seen = answer 0 debug [] (replicate 9 0)
      ∷ answer 0 (0 ∷ 5 ∷ 255 ∷ 0 ∷ 7 ∷ 2 ∷ 0 ∷ 16 ∷ 0 ∷ 2 ∷ []) [] deposited
      ∷ answer 10 (0 ∷ 5 ∷ 255 ∷ 0 ∷ 135 ∷ 2 ∷ 0 ∷ 17 ∷ 0 ∷ 2 ∷ []) [] deposited
      ∷ [];
}

-- ---- the one memory (K9)

-- the processes 0 to 3
abbrev pub first_four : List Bool
first_four = true ∷ true ∷ true ∷ true ∷ false ∷ false ∷ false ∷ false ∷ []

-- where they begin, with 4,096 bytes each but the last, which has 2 fewer
abbrev pub first_four_begin : List ℕ
first_four_begin = 0 ∷ 4096 ∷ 8192 ∷ 12288 ∷ 0 ∷ 0 ∷ 0 ∷ 0 ∷ []

-- 'an odd or greater size' is 6; 'free bytes are fewer than the size' is 13, while a number is free; two bytes are free, and a process of two
-- is created there, 'zeroed to its size'
abbrev pub size_case : Case
size_case = record {
  there = first_four;
  sizes = 4096 ∷ 4096 ∷ 4096 ∷ 4094 ∷ [];
  lent = sevens;
  places = 16381 ∷ 16382 ∷ 16383 ∷ [];
  looks = begins;
  calls = create 3 ∷ create 4098 ∷ create 4 ∷ create 0 ∷ create 2 ∷ create 2 ∷ [];
  seen = answer 6 [] (7 ∷ 7 ∷ 7 ∷ []) first_four_begin
      ∷ answer 6 [] (7 ∷ 7 ∷ 7 ∷ []) first_four_begin
      ∷ answer 13 (0 ∷ 5 ∷ 255 ∷ 0 ∷ 140 ∷ 0 ∷ 0 ∷ 4 ∷ 0 ∷ 0 ∷ []) (7 ∷ 7 ∷ 7 ∷ []) first_four_begin
      ∷ answer 13 (0 ∷ 5 ∷ 255 ∷ 0 ∷ 140 ∷ 0 ∷ 0 ∷ 0 ∷ 0 ∷ 0 ∷ []) (7 ∷ 7 ∷ 7 ∷ []) first_four_begin
      ∷ answer 0 (0 ∷ 5 ∷ 255 ∷ 0 ∷ 12 ∷ 4 ∷ 0 ∷ 2 ∷ 0 ∷ 0 ∷ []) (7 ∷ 0 ∷ 0 ∷ []) (0 ∷ 4096 ∷ 8192 ∷ 12288 ∷ 16382 ∷ 0 ∷ 0 ∷ 0 ∷ [])
      ∷ answer 13 (0 ∷ 5 ∷ 255 ∷ 0 ∷ 140 ∷ 0 ∷ 0 ∷ 2 ∷ 0 ∷ 0 ∷ []) (7 ∷ 0 ∷ 0 ∷ []) (0 ∷ 4096 ∷ 8192 ∷ 12288 ∷ 16382 ∷ 0 ∷ 0 ∷ 0 ∷ [])
      ∷ [];
}

-- eight processes of two bytes each: 'all numbers are taken' is 13, though bytes are free; an odd size is 6 even then
abbrev pub full_case : Case
full_case = record {
  there = replicate 8 true;
  sizes = replicate 8 2;
  lent = zeros;
  places = [];
  looks = begins;
  calls = create 2 ∷ create 3 ∷ [];
  seen = answer 13 (0 ∷ 5 ∷ 255 ∷ 0 ∷ 140 ∷ 0 ∷ 0 ∷ 2 ∷ 0 ∷ 0 ∷ []) [] (0 ∷ 2 ∷ 4 ∷ 6 ∷ 8 ∷ 10 ∷ 12 ∷ 14 ∷ []) ∷ answer 6 [] [] (0 ∷ 2 ∷ 4 ∷ 6 ∷ 8 ∷ 10 ∷ 12 ∷ 14 ∷ []) ∷ [];
}

-- what is looked at where the processes 0 and 2 lie at the start: every byte is 7, but for the word 18, 52 at 256 of process 2
abbrev pub at_start : List ℕ
at_start = 7 ∷ 7 ∷ 18 ∷ 52 ∷ 7 ∷ 7 ∷ 7 ∷ 7 ∷ 7 ∷ 7 ∷ []

-- the same while that word is planted
abbrev pub while_planted : List ℕ
while_planted = 7 ∷ 7 ∷ 3 ∷ 0 ∷ 7 ∷ 7 ∷ 7 ∷ 7 ∷ 7 ∷ 7 ∷ []

-- and once process 0 is gone: the planted word is 1,536 bytes lower, and what process 2 left at its end is zero
abbrev pub when_moved : List ℕ
when_moved = 3 ∷ 0 ∷ 7 ∷ 7 ∷ 7 ∷ 0 ∷ 0 ∷ 7 ∷ 7 ∷ 7 ∷ []

-- and once there is a new process 0 of 4,096 bytes, after process 2
abbrev pub when_created : List ℕ
when_created = 3 ∷ 0 ∷ 7 ∷ 7 ∷ 7 ∷ 0 ∷ 0 ∷ 0 ∷ 0 ∷ 7 ∷ []

-- EXAMINE of the word at 256 of process 2 shows the saved one
abbrev pub word_seen : List ℕ → List ℕ → Seen
word_seen = answer 0 (0 ∷ 5 ∷ 255 ∷ 0 ∷ 6 ∷ 2 ∷ 1 ∷ 0 ∷ 0 ∷ 2 ∷ 18 ∷ 52 ∷ [])

-- 'at a DESTROY those above move down, what is seen in them unchanged': process 0, of 1,536 bytes, goes while a breakpoint is planted in
-- process 2, of 2,048; a store past the end of process 2 changes nothing; a new process 0 comes last, and host 6 examines two bytes of it
-- that DESTROY and CREATE zeroed; the word is put back where it lies now
abbrev pub move_case : Case
move_case = record {
  there = true ∷ false ∷ true ∷ false ∷ false ∷ false ∷ false ∷ false ∷ [];
  sizes = 1536 ∷ 0 ∷ 2048 ∷ [];
  lent = set (set sevens 1792 18) 1793 52;
  places = 256 ∷ 257 ∷ 1792 ∷ 1793 ∷ 2047 ∷ 2048 ∷ 3583 ∷ 3584 ∷ 6143 ∷ 6144 ∷ [];
  looks = moves;
  calls = sent debug ∷ asked 6 1 0 0 0 [] ∷ break 256 0 ∷ asked 5 6 2 256 2 [] ∷ asked 6 13 0 0 0 [] ∷ asked 5 6 2 256 2 [] ∷ store 2 2048 9
      ∷ asked 6 12 0 0 0 [] ∷ asked 6 6 0 1535 2 [] ∷ asked 5 9 2 256 0 [] ∷ [];
  seen = answer 0 debug at_start (0 ∷ 1536 ∷ 0 ∷ 0 ∷ [])
      ∷ answer 0 (0 ∷ 6 ∷ 255 ∷ 0 ∷ 1 ∷ 0 ∷ 0 ∷ 0 ∷ 0 ∷ 0 ∷ []) at_start (0 ∷ 1536 ∷ 0 ∷ 0 ∷ [])
      ∷ answer 0 (0 ∷ 5 ∷ 255 ∷ 0 ∷ 8 ∷ 2 ∷ 1 ∷ 0 ∷ 0 ∷ 0 ∷ []) while_planted (0 ∷ 1536 ∷ 18 ∷ 52 ∷ [])
      ∷ word_seen while_planted (0 ∷ 1536 ∷ 18 ∷ 52 ∷ [])
      ∷ answer 0 (0 ∷ 6 ∷ 255 ∷ 0 ∷ 13 ∷ 0 ∷ 0 ∷ 0 ∷ 0 ∷ 0 ∷ []) when_moved (0 ∷ 0 ∷ 18 ∷ 52 ∷ [])
      ∷ word_seen when_moved (0 ∷ 0 ∷ 18 ∷ 52 ∷ [])
      ∷ stored when_moved (0 ∷ 0 ∷ 18 ∷ 52 ∷ [])
      ∷ answer 0 (0 ∷ 6 ∷ 255 ∷ 0 ∷ 12 ∷ 0 ∷ 0 ∷ 0 ∷ 0 ∷ 0 ∷ []) when_created (2048 ∷ 0 ∷ 18 ∷ 52 ∷ [])
      ∷ answer 0 (0 ∷ 6 ∷ 255 ∷ 0 ∷ 6 ∷ 0 ∷ 5 ∷ 255 ∷ 0 ∷ 2 ∷ 0 ∷ 0 ∷ []) when_created (2048 ∷ 0 ∷ 18 ∷ 52 ∷ [])
      ∷ answer 0 (0 ∷ 5 ∷ 255 ∷ 0 ∷ 9 ∷ 2 ∷ 1 ∷ 0 ∷ 0 ∷ 0 ∷ []) (18 ∷ 52 ∷ 7 ∷ 7 ∷ 7 ∷ 0 ∷ 0 ∷ 0 ∷ 0 ∷ 7 ∷ []) (2048 ∷ 0 ∷ 0 ∷ 0 ∷ [])
      ∷ [];
}

-- all of these cases
abbrev pub cases : List Case
cases = nop_case ∷ debug_case ∷ examine_case ∷ break_case ∷ ninth_case ∷ count_case ∷ create_case ∷ vector_case ∷ size_case ∷ full_case ∷ move_case ∷ []
