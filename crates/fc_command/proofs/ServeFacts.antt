-- How the steps of `serve` go on from one another.
use Rattle.std.proofs.Common.{◌≡◌, ℕ, ◌+◌, ◌-◌, ◌^◌, ◌<◌, min, List, [], ◌∷◌, ◌++◌, length, Some, None, Option, Result, Ok, Err, MatchResult, IfSome, refl, sym}
use Rattle.std.proofs.Common.{ap, subst, ◌∙◌, inl, inr, arith, append_assoc, append-nil, length-append}
use Rattle.std.proofs.lemmas.List.{length_push}
use Rattle.std.specs.Ordering.{nat_cmp}
use Rattle.std.specs.Io.KnownBytes.{Consumes, IsAtEnd}
use Rattle.fc_command.specs.declared.command.world.World.{World}
use Rattle.fc_lines.specs.declared.command.Command.{Command}
use Rattle.fc_lines.specs.declared.command.Reply.{Reply}
use Rattle.fc_command.specs.declared.command.session.Session.{Session}
use Rattle.fc_command.specs.declared.command.session.ServeEnd.{ServeEnd}
use Rattle.fc_command.specs.declared.command.session.ServeEnd.TheVariants.{Finished, NotACommand}
use Rattle.fc_command.specs.declared.command.session.ServeError.{ServeError}
use Rattle.fc_command.specs.declared.command.session.ServeError.TheVariants.{Memory, Read, Write}
use Rattle.fc_command.specs.Step.{Step, IsNew}
use Rattle.fc_lines.specs.Lines.{lines_of}
use Rattle.fc_lines.specs.Grammar.{command_of}
use Rattle.fc_lines.specs.Texts.{text_of, fault_text}
use Rattle.fc_command.specs.Spoken.{SpokenTo, SpokenIn, Faulted, Cut, StopsAtList, ServedIn}
use Rattle.fc_command.specs.Session.{Written, FaultTold, LineRun, Cuts, IsAfter, Failed, PieceRun, Ended}
use Rattle.fc_command.proofs.CutFacts.{Open, cuts_none, cuts_part, cuts_feed, cuts_whole, lines_feed, lines_open, lines_begin_any, open_append, too_long}
use Rattle.fc_command.proofs.SpokenFacts.{spoken_none, spoken_more}

-- the line is not a command
pub line_refused : {Z : Type 0} (old new : Session Z) (front : List (List ℕ)) (said more : List ℕ) (r : Result (Option ℕ) ServeError)
    → command_of old.line.items ≡ None → FaultTold (min (old.number + 1) (2 ^ 64 - 1)) more r → LineRun old new front said more r
line_refused old new front said more (Ok None) bad told = absurd told
line_refused old new front said more (Ok (Some n)) bad told = (bad, told.0, told.1)
line_refused old new front said more (Err (Memory e)) bad told = absurd told
line_refused old new front said more (Err Read) bad told = told
line_refused old new front said more (Err Write) bad told = (told.0, inr (bad, told.1))

-- the line was run, and its reply was not written whole
pub reply_failed : {Z : Type 0} (old new : Session Z) (front : List (List ℕ)) (said more text : List ℕ) (c : Command ℕ ℕ) (r : Reply ℕ ℕ) (w' : World ℕ ℕ Z)
    (e : ServeError)
    → SpokenTo front said old.world
    → command_of old.line.items ≡ Some c → Step nat_cmp (λ _ _. ⊥) (λ _ _. ⊥) old.world c r w' → text ≡ text_of r → Written text more (Err e)
    → LineRun old new front said more (Err e)
reply_failed old new front said more text c r w' (Memory e) s is step told h = absurd h
reply_failed old new front said more text c r w' Read s is step told h = absurd h
reply_failed old new front said more text c r w' Write s is step told h = (
  h.0,
  inl (
    w',
    subst (λ t. SpokenTo (front ++ old.line.items ∷ []) (said ++ t) w') (sym told ∙ h.1)
        (spoken_more front said old.world w' old.line.items c r s is step),
  ),
)

next_number : (number n len : ℕ) → number ≡ min len (2 ^ 64 - 1) → n ≡ min (number + 1) (2 ^ 64 - 1) → n ≡ min (len + 1) (2 ^ 64 - 1)
next_number number n len a b = omega arith

-- one of these lines is no command
pub faulted_here : {Z : Type 0} (lines : List (List ℕ)) (front after : List (List ℕ)) (line said more : List ℕ) (w : World ℕ ℕ Z) (number n : ℕ)
    → lines ≡ front ++ line ∷ after → SpokenTo front said w → number ≡ min (length front) (2 ^ 64 - 1)
    → command_of line ≡ None → n ≡ min (number + 1) (2 ^ 64 - 1) → more ≡ fault_text n → Faulted Z lines (said ++ more) n
faulted_here lines front after line said more w number n place s num bad is told = record {
  front = front;
  line = line;
  after = after;
  said = said;
  place = place;
  bad = bad;
  spoken = (w, s);
  number = next_number number n (length front) num is;
  text_is = ap (λ t. said ++ t) told;
}

-- the run of a line failed
pub line_failed : {Z : Type 0} (lines : List (List ℕ)) (old new : Session Z) (front after : List (List ℕ)) (said more : List ℕ) (e : ServeError)
    → lines ≡ front ++ old.line.items ∷ after → SpokenTo front said old.world → old.number ≡ min (length front) (2 ^ 64 - 1)
    → LineRun old new front said more (Err e) → Failed Z lines (said ++ more) e
line_failed lines old new front after said more (Memory e) place s num h =
    (h.0, (front, after, old.line.items, place, h.2, (old.world, rw (h.1, append-nil said) s)))
line_failed lines old new front after said more Read place s num h = absurd h
line_failed lines old new front after said more Write place s num h = (
  h.0,
  elim h.1 [
    | inl spoken ↦ inl (
      front ++ old.line.items ∷ [],
      after,
      place ∙ sym (append_assoc front (old.line.items ∷ []) after),
      (spoken.0, rw (append_assoc said more h.0) spoken.1),
    )
    | inr told ↦ inr (
      min (old.number + 1) (2 ^ 64 - 1),
      rw (append_assoc said more h.0)
          (faulted_here lines front after old.line.items said (more ++ h.0) old.world old.number (min (old.number + 1) (2 ^ 64 - 1)) place s num told.0 refl
          told.1),
    )
  ],
)

-- the refusal of a line failed, or was written
pub refused_line : {Z : Type 0} (lines : List (List ℕ)) (front after : List (List ℕ)) (line said more : List ℕ) (w : World ℕ ℕ Z) (number : ℕ)
    (r : Result (Option ℕ) ServeError) → lines ≡ front ++ line ∷ after → SpokenTo front said w → number ≡ min (length front) (2 ^ 64 - 1)
    → command_of line ≡ None → FaultTold (min (number + 1) (2 ^ 64 - 1)) more r
    → MatchResult r (λ o. (n : ℕ) × (o ≡ Some n) × Faulted Z lines (said ++ more) n) (λ e. Failed Z lines (said ++ more) e)
refused_line lines front after line said more w number (Ok None) place s num bad h = absurd h
refused_line lines front after line said more w number (Ok (Some n)) place s num bad h =
    (n, refl, faulted_here lines front after line said more w number n place s num bad h.0 h.1)
refused_line lines front after line said more w number (Err (Memory e)) place s num bad h = absurd h
refused_line lines front after line said more w number (Err Read) place s num bad h = absurd h
refused_line lines front after line said more w number (Err Write) place s num bad h = (
  h.0,
  inr (
    min (number + 1) (2 ^ 64 - 1),
    rw (append_assoc said more h.0)
        (faulted_here lines front after line said (more ++ h.0) w number (min (number + 1) (2 ^ 64 - 1)) place s num bad refl h.1),
  ),
)

-- where the line ends
pub place_feed : (seen : List ℕ) (front : List (List ℕ)) (line after : List ℕ) → Cuts seen front line
    → lines_of (seen ++ 10 ∷ after) ≡ front ++ line ∷ lines_of after
place_feed seen front line after cuts = cuts.lines (10 ∷ after) ∙ ap (λ l. front ++ l) (lines_feed line after cuts.open_line)

-- where the source ends in a line
pub place_end : (seen : List ℕ) (front : List (List ℕ)) (line : List ℕ) → Cuts seen front line → 0 < length line → lines_of seen ≡ front ++ line ∷ []
place_end seen front [] cuts h = absurd (omega arith)
place_end seen front (x ∷ line) cuts h = ap lines_of (sym (append-nil seen)) ∙ cuts.lines [] ∙ ap (λ l. front ++ lines_of l) (append-nil (x ∷ line))
    ∙ ap (λ l. front ++ l) (lines_open x line cuts.open_line)

pub place_none : (seen : List ℕ) (front : List (List ℕ)) (line : List ℕ) → Cuts seen front line → line ≡ [] → lines_of seen ≡ front
place_none seen front line cuts e = ap lines_of (sym (append-nil seen)) ∙ cuts.lines [] ∙ ap (λ l. front ++ lines_of (l ++ [])) e ∙ append-nil front

module _ (Z : Type 0) where
  -- a flush, and the end
  pub ended_flushed : (source text : List ℕ) (end : ServeEnd) (r : Result ServeEnd ServeError) → MatchResult r (λ x. x ≡ end) (λ e. e ≡ Write)
      → Ended Z source text (Ok end) → Cut Z (lines_of source) text → Ended Z source text r
  ended_flushed source text end (Ok x) e told cut = rw e told
  ended_flushed source text end (Err x) e told cut = rw e cut

  pub cut_spoken : (lines : List (List ℕ)) (text : List ℕ) → SpokenIn Z lines text → Cut Z lines text
  cut_spoken lines text s = ([], inl (lines, [], sym (append-nil lines), rw (append-nil text) s))

  pub cut_faulted : (lines : List (List ℕ)) (text : List ℕ) (n : ℕ) → Faulted Z lines text n → Cut Z lines text
  cut_faulted lines text n s = ([], inr (n, rw (append-nil text) s))

-- bytes without a line feed were put after the line, or are too many for it
module _ {Z : Type 0} (seen said : List ℕ) (s : Session Z) (a : IsAfter s seen said) (part : List ℕ) (open_part : Open part) where
  pub part_on : (new : Session Z) → new.world ≡ s.world → new.number ≡ s.number → new.line.items ≡ s.line.items ++ part → IsAfter new (seen ++ part) said
  part_on new world number line = record {
    front = a.front;
    cuts = rw line (cuts_part _ a.front s.line.items a.cuts part open_part);
    spoken = rw world a.spoken;
    number = number ∙ a.number;
  }

  long_place : 0 < length (s.line.items ++ part) → (rest : List ℕ) → (tail : List ℕ) × (after : List (List ℕ))
      × (lines_of ((seen ++ part) ++ rest) ≡ a.front ++ ((s.line.items ++ part) ++ tail) ∷ after)
  long_place some rest =
      let first = lines_begin_any (s.line.items ++ part) rest (open_append s.line.items part a.cuts.open_line open_part) some in
      (first.0, first.1, (cuts_part _ a.front s.line.items a.cuts part open_part).lines rest ∙ ap (λ l. a.front ++ l) first.2)

  long_line : 4096 < length (s.line.items ++ part) → (tail : List ℕ) → command_of ((s.line.items ++ part) ++ tail) ≡ None
  long_line long tail = too_long _ (omega (arith, long, length-append (s.line.items ++ part) tail))

  pub part_refused : 4096 < length (s.line.items ++ part) → (new : Session Z) (more : List ℕ) (r : Result (Option ℕ) ServeError)
      → FaultTold (min (s.number + 1) (2 ^ 64 - 1)) more r → PieceRun new (seen ++ part) (said ++ more) r
  part_refused long new more (Ok None) told = absurd told
  part_refused long new more (Ok (Some n)) told = λ rest.
      let p = long_place (omega (arith, long)) rest in
      faulted_here _ a.front p.1 _ said more s.world s.number n p.2 a.spoken a.number (long_line long p.0) told.0 told.1
  part_refused long new more (Err e) told = λ rest.
      let p = long_place (omega (arith, long)) rest in
      refused_line _ a.front p.1 _ said more s.world s.number (Err e) p.2 a.spoken a.number (long_line long p.0) told

-- a line feed came, and the line was run
module _ {Z : Type 0} (seen said more : List ℕ) (s new : Session Z) (a : IsAfter s seen said) where
  feed_place : (rest : List ℕ) → lines_of ((seen ++ 10 ∷ []) ++ rest) ≡ a.front ++ s.line.items ∷ lines_of rest
  feed_place rest = ap lines_of (append_assoc seen (10 ∷ []) rest) ∙ place_feed seen a.front s.line.items rest a.cuts

  pub fed : (r : Result (Option ℕ) ServeError) → LineRun s new a.front said more r → PieceRun new (seen ++ 10 ∷ []) (said ++ more) r
  fed (Ok None) run = record {
    front = a.front ++ s.line.items ∷ [];
    cuts = rw run.1 (cuts_feed _ a.front s.line.items a.cuts);
    spoken = run.0;
    number = rw length_push (next_number s.number new.number (length a.front) a.number run.2);
  }
  fed (Ok (Some n)) run = λ rest. faulted_here _ a.front _ s.line.items said more s.world s.number n (feed_place rest) a.spoken a.number run.0 run.1 run.2
  fed (Err e) run = λ rest. line_failed _ s new a.front _ said more e (feed_place rest) a.spoken a.number run

-- what ended the session stands however the source goes on
fault_goes_on : {Z : Type 0} (new : Session Z) (seen said later : List ℕ) (n : ℕ)
    → PieceRun new seen said (Ok (Some n)) → PieceRun new (seen ++ later) said (Ok (Some n))
fault_goes_on new seen said later n h rest = rw (append_assoc seen later rest) (h (later ++ rest))

failure_goes_on : {Z : Type 0} (new : Session Z) (seen said later : List ℕ) (e : ServeError)
    → PieceRun new seen said (Err e) → PieceRun new (seen ++ later) said (Err e)
failure_goes_on new seen said later e h rest = rw (append_assoc seen later rest) (h (later ++ rest))

refusal_goes_on : {Z : Type 0} (new : Session Z) (seen said later more : List ℕ) (number : ℕ) (r : Result (Option ℕ) ServeError) → FaultTold number more r
    → PieceRun new seen said r → PieceRun new (seen ++ later) said r
refusal_goes_on new seen said later more number (Ok None) told h = absurd told
refusal_goes_on new seen said later more number (Ok (Some n)) told h = fault_goes_on new seen said later n h
refusal_goes_on new seen said later more number (Err e) told h = failure_goes_on new seen said later e h

-- of a piece so much was taken, then comes a part without a line feed, and then what is left
module _ {Z : Type 0} (seen said piece taken rest part left m0 : List ℕ) (e : piece ≡ taken ++ rest) (f : rest ≡ part ++ left) (s : Session Z)
    (a : IsAfter s (seen ++ taken) (said ++ m0)) (open_part : Open part) where
  in_parts : seen ++ piece ≡ ((seen ++ taken) ++ part) ++ left
  in_parts = ap (λ l. seen ++ l) (e ∙ ap (λ l. taken ++ l) f) ∙ sym (append_assoc seen taken (part ++ left)) ∙ sym (append_assoc (seen ++ taken) part left)

  pub piece_refused : 4096 < length (s.line.items ++ part) → (new : Session Z) (more : List ℕ) (r : Result (Option ℕ) ServeError)
      → FaultTold (min (s.number + 1) (2 ^ 64 - 1)) more r → PieceRun new (seen ++ piece) (said ++ (m0 ++ more)) r
  piece_refused long new more r told =
      let here = part_refused (seen ++ taken) (said ++ m0) s a part open_part long new more r told in
      let on = refusal_goes_on new ((seen ++ taken) ++ part) ((said ++ m0) ++ more) left more _ r told here in
      subst (λ t. PieceRun new (seen ++ piece) t r) (append_assoc said m0 more) (subst (λ l. PieceRun new l ((said ++ m0) ++ more) r) (sym in_parts) on)

  pub piece_open : left ≡ [] → (new : Session Z) → new.world ≡ s.world → new.number ≡ s.number → new.line.items ≡ s.line.items ++ part
      → IsAfter new (seen ++ piece) (said ++ m0)
  piece_open none new world number line =
      let all = in_parts ∙ ap (λ l. ((seen ++ taken) ++ part) ++ l) none ∙ append-nil ((seen ++ taken) ++ part) in
      subst (λ l. IsAfter new l (said ++ m0)) (sym all) (part_on (seen ++ taken) (said ++ m0) s a part open_part new world number line)

  -- what is left begins with a line feed, at which the line is run
  module _ (after more : List ℕ) (feed : left ≡ 10 ∷ after) (t new : Session Z) (world : t.world ≡ s.world) (number : t.number ≡ s.number)
      (line : t.line.items ≡ s.line.items ++ part) where
    in_lines : seen ++ piece ≡ (((seen ++ taken) ++ part) ++ 10 ∷ []) ++ after
    in_lines = in_parts ∙ ap (λ l. ((seen ++ taken) ++ part) ++ l) feed ∙ sym (append_assoc ((seen ++ taken) ++ part) (10 ∷ []) after)

    run_here : (r : Result (Option ℕ) ServeError) → LineRun t new a.front (said ++ m0) more r
        → PieceRun new (((seen ++ taken) ++ part) ++ 10 ∷ []) (said ++ (m0 ++ more)) r
    unfolding part_on
    run_here r run =
        let a' = part_on (seen ++ taken) (said ++ m0) s a part open_part t world number line in
        subst (λ x. PieceRun new (((seen ++ taken) ++ part) ++ 10 ∷ []) x r) (append_assoc said m0 more)
        (fed ((seen ++ taken) ++ part) (said ++ m0) more t new a' r run)

    pub piece_failed : (x : ServeError) → LineRun t new a.front (said ++ m0) more (Err x) → PieceRun new (seen ++ piece) (said ++ (m0 ++ more)) (Err x)
    piece_failed x run = subst (λ l. PieceRun new l (said ++ (m0 ++ more)) (Err x)) (sym in_lines)
        (failure_goes_on new (((seen ++ taken) ++ part) ++ 10 ∷ []) (said ++ (m0 ++ more)) after x (run_here (Err x) run))

    pub piece_fault : (n : ℕ) → LineRun t new a.front (said ++ m0) more (Ok (Some n)) → PieceRun new (seen ++ piece) (said ++ (m0 ++ more)) (Ok (Some n))
    piece_fault n run = subst (λ l. PieceRun new l (said ++ (m0 ++ more)) (Ok (Some n))) (sym in_lines)
        (fault_goes_on new (((seen ++ taken) ++ part) ++ 10 ∷ []) (said ++ (m0 ++ more)) after n (run_here (Ok (Some n)) run))

    pub piece_on : LineRun t new a.front (said ++ m0) more (Ok None) → IsAfter new (seen ++ (taken ++ (part ++ 10 ∷ []))) (said ++ (m0 ++ more))
    piece_on run = subst (λ l. IsAfter new l (said ++ (m0 ++ more))) (append_assoc (seen ++ taken) part (10 ∷ []) ∙ append_assoc seen taken (part ++ 10 ∷ []))
        (run_here (Ok None) run)

-- what holds of a source however it goes on, and of one that was read whole
pub however : (a b : Option (List ℕ)) (seen : List ℕ) (P : List ℕ → Type 0) → Consumes a b seen → ((rest : List ℕ) → P (seen ++ rest)) → IfSome a P
however None b seen P took h = tt
however (Some x) None seen P took h = absurd took
however (Some x) (Some y) seen P took h = subst P (sym took) (h y)

pub in_full : (a b : Option (List ℕ)) (seen : List ℕ) (P : List ℕ → Type 0) → Consumes a b seen → IsAtEnd b → P seen → IfSome a P
in_full None b seen P took end h = tt
in_full (Some x) None seen P took end h = absurd took
in_full (Some x) (Some y) seen P took end h = subst P (sym (took ∙ ap (λ l. seen ++ l) end ∙ append-nil seen)) h

module _ (Z : Type 0) (a b : Option (List ℕ)) (seen text : List ℕ) where
  pub served_failed : (e : ServeError) → Consumes a b seen → ((rest : List ℕ) → Failed Z (lines_of (seen ++ rest)) text e) → ServedIn Z a b text (Err e)
  served_failed (Memory e) took h =
      ((h []).0, inr (however a b seen (λ source. StopsAtList Z (lines_of source) text) took (λ rest. (h rest).1)))
  served_failed Read took h = absurd (h [])
  served_failed Write took h = however a b seen (λ source. Cut Z (lines_of source) text) took h

  pub served_end : (r : Result ServeEnd ServeError) → Consumes a b seen → IsAtEnd b → Ended Z seen text r → ServedIn Z a b text r
  served_end (Ok Finished) took end h = (end, in_full a b seen (λ source. SpokenIn Z (lines_of source) text) took end h)
  served_end (Ok (NotACommand n)) took end h = in_full a b seen (λ source. Faulted Z (lines_of source) text n) took end h
  served_end (Err (Memory e)) took end h = (h.0, inr (in_full a b seen (λ source. StopsAtList Z (lines_of source) text) took end h.1))
  served_end (Err Read) took end h = absurd h
  served_end (Err Write) took end h = in_full a b seen (λ source. Cut Z (lines_of source) text) took end h

  pub served_fault : (n : ℕ) (r : Result ServeEnd ServeError) → Consumes a b seen → ((rest : List ℕ) → Faulted Z (lines_of (seen ++ rest)) text n)
      → MatchResult r (λ x. x ≡ NotACommand n) (λ e. e ≡ Write) → ServedIn Z a b text r
  served_fault n (Ok x) took h e = rw e (however a b seen (λ source. Faulted Z (lines_of source) text n) took h)
  served_fault n (Err x) took h e = rw e (however a b seen (λ source. Cut Z (lines_of source) text) took (λ rest. cut_faulted Z _ text n (h rest)))

  pub served_read : (s : Session Z) → Consumes a b seen → IsAfter s seen text → ServedIn Z a b text (Err Read)
  served_read s took h = (seen, took, (s.world, rw (cuts_whole seen h.front s.line.items h.cuts) h.spoken))

pub after_nothing : {Z : Type 0} (s : Session Z) → IsNew s.world → s.line.items ≡ [] → s.number ≡ 0 → IsAfter s [] []
after_nothing s new line number = record { front = []; cuts = rw line cuts_none; spoken = spoken_none s.world new; number = number }
