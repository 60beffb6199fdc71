-- The bytes that the writer of a process holds in the end.
use Rattle.std.proofs.Common.{◌≡◌, ℕ, Bool, true, false, List, [], ◌++◌, refl, ap, sym, ◌∙◌, append_assoc, subst}
use Rattle.std.specs.Prelude.{Option, Some, None, is_some, ◌↔◌}
use Rattle.std.proofs.lemmas.List.{append-nil}
use Rattle.std.proofs.lemmas.Option.{same_Some}
use Rattle.std.specs.Io.KnownBytes.{append_known, Keeps}
use Rattle.kc_text.specs.Telling.{IsTold, told_of}
use Rattle.kcore.specs.declared.command.Command.{Command}
use Rattle.kc_shell.specs.declared.status.Status.{Status}
use Rattle.kc_shell.specs.declared.status.Status.TheVariants.{Done, Refused, Usage, ReadFault, WriteFault, Memory}
use Rattle.kcore.specs.Texts.{WritesWhole, WritesPrefix}
use Rattle.kcore.specs.Commands.{IsText, Wrote, WroteOf, worked_on, Answers}
use Rattle.kcore.specs.Process.{HoldsWhole, HoldsPrefix, Held, HeldOf, ProcessAnswers}
use Rattle.kcore.specs.private.Process.{HandsOnSome, HandsOn, last_status}

-- a reader or writer whose bytes are known tells them
told_all : (told : Bool) (known : Option (List ℕ)) → told ≡ is_some known → told_of told known ≡ known
told_all true None e = refl
told_all true (Some xs) e = refl
told_all false None e = refl
told_all false (Some xs) e = absurd cc

pub tells : (told : Bool) (known : Option (List ℕ)) → told ≡ is_some known → told ≡ true → IsTold known
tells told None e f = absurd cc
tells told (Some xs) e f = tt

-- a writer with an empty buffer passes on all bytes
pub all_on : (old new inner : Option (List ℕ)) (buffer : List ℕ) → new ≡ append_known inner buffer → Keeps old new → buffer ≡ [] → HandsOn true old inner
all_on None new inner buffer e k f = tt
all_on (Some xs) None inner buffer e k f = absurd k
all_on (Some xs) (Some ys) None buffer e k f = absurd cc
all_on (Some xs) (Some ys) (Some zs) buffer e k f =
    let same : ys ≡ zs ++ buffer = same_Some _ _ e in
    ap Some (sym (sym k ∙ same ∙ ap (λ (b : List ℕ). zs ++ b) f ∙ append-nil zs))

-- each writer passes on a part of the bytes
pub some_on : (old new inner : Option (List ℕ)) (buffer : List ℕ) → new ≡ append_known inner buffer → Keeps old new → HandsOn false old inner
some_on None new inner buffer e k = tt
some_on (Some xs) None inner buffer e k = absurd k
some_on (Some xs) (Some ys) None buffer e k = absurd cc
some_on (Some xs) (Some ys) (Some zs) buffer e k = record { said = zs; rest = buffer; all_is = sym k ∙ same_Some _ _ e; holds = refl }

-- a text with the bytes held before it, of which a part was taken
longer : (before text said rest all : List ℕ) → text ≡ said ++ rest → Some all ≡ append_known (Some before) said → before ++ text ≡ all ++ rest
longer before text said rest all e t = ap (λ (b : List ℕ). before ++ b) e ∙ (sym (append_assoc before said rest) ∙ ap (λ (b : List ℕ). b ++ rest) (sym (same_Some _ _ t)))

whole_held : (IsText : List ℕ → Bool → Type 0) (before all : List ℕ) (now : Option (List ℕ)) (refused : Bool) → WritesWhole IsText (Some before) (Some all) refused → now ≡ Some all → HoldsWhole IsText before now refused
whole_held IsText before all now refused w h = record { text = w.text; is_text = w.is_text; holds = h ∙ w.taken }

whole_cut : (IsText : List ℕ → Bool → Type 0) (before all : List ℕ) (now : Option (List ℕ)) (refused : Bool) → WritesWhole IsText (Some before) (Some all) refused → HandsOnSome all now → HoldsPrefix IsText before now
whole_cut IsText before all now refused w h =
    record { text = w.text; refused = refused; is_text = w.is_text; said = h.said; rest = h.rest; all = sym (same_Some _ _ w.taken) ∙ h.all_is; holds = h.holds }

prefix_held : (IsText : List ℕ → Bool → Type 0) (before all : List ℕ) (now : Option (List ℕ)) → WritesPrefix IsText (Some before) (Some all) → now ≡ Some all → HoldsPrefix IsText before now
prefix_held IsText before all now w h =
    record { text = w.text; refused = w.refused; is_text = w.is_text; said = all; rest = w.prefix.rest; all = longer before w.text w.prefix.said w.prefix.rest all w.prefix.all w.prefix.taken; holds = h }

prefix_cut : (IsText : List ℕ → Bool → Type 0) (before all : List ℕ) (now : Option (List ℕ)) → WritesPrefix IsText (Some before) (Some all) → HandsOnSome all now → HoldsPrefix IsText before now
prefix_cut IsText before all now w h =
    record {
      text = w.text;
      refused = w.refused;
      is_text = w.is_text;
      said = h.said;
      rest = h.rest ++ w.prefix.rest;
      all = longer before w.text w.prefix.said w.prefix.rest all w.prefix.all w.prefix.taken ∙ (ap (λ (b : List ℕ). b ++ w.prefix.rest) h.all_is ∙ append_assoc h.said h.rest w.prefix.rest);
      holds = h.holds;
    }

held : (command : Command) (bytes before all : List ℕ) (now : Option (List ℕ)) (done : Bool) (status : Status) → Wrote command bytes (Some before) (Some all) status → HandsOn done (Some all) now
    → Held command bytes before now (last_status done status)
held command bytes before all now true Done w h = whole_held (IsText command bytes) before all now false w h
held command bytes before all now true Refused w h = whole_held (IsText command bytes) before all now true w h
held command bytes before all now true Usage w h = absurd w
held command bytes before all now true ReadFault w h = prefix_held (IsText command bytes) before all now w h
held command bytes before all now true WriteFault w h = prefix_held (IsText command bytes) before all now w h
held command bytes before all now true Memory w h = prefix_held (IsText command bytes) before all now w h
held command bytes before all now false Done w h = whole_cut (IsText command bytes) before all now false w h
held command bytes before all now false Refused w h = whole_cut (IsText command bytes) before all now true w h
held command bytes before all now false Usage w h = absurd w
held command bytes before all now false ReadFault w h = prefix_cut (IsText command bytes) before all now w h
held command bytes before all now false WriteFault w h = prefix_cut (IsText command bytes) before all now w h
held command bytes before all now false Memory w h = prefix_cut (IsText command bytes) before all now w h

-- a sink that told its bytes before tells them now
some_taken : (command : Command) (bytes before : List ℕ) (status : Status) → Wrote command bytes (Some before) None status → ⊥
some_taken command bytes before Done w = let e = w.taken in cc
some_taken command bytes before Refused w = let e = w.taken in cc
some_taken command bytes before Usage w = w
some_taken command bytes before ReadFault w = let e = w.prefix.taken in cc
some_taken command bytes before WriteFault w = let e = w.prefix.taken in cc
some_taken command bytes before Memory w = let e = w.prefix.taken in cc

held_of : (command : Command) (worked before mid now : Option (List ℕ)) (done : Bool) (status : Status) → WroteOf command worked before mid status → HandsOn done mid now → HeldOf command worked before now (last_status done status)
held_of command None before mid now done status w h = tt
held_of command (Some bytes) None mid now done status w h = tt
held_of command (Some bytes) (Some before) None now done status w h = absurd (some_taken command bytes before status w)
held_of command (Some bytes) (Some before) (Some all) now done status w h = held command bytes before all now done status w h

answers : (asked : Option Command) (left before mid now : Option (List ℕ)) (done : Bool) (status : Status) → Answers asked left before mid status → HandsOn done mid now → ProcessAnswers asked left before now (last_status done status)
answers None left before mid now done status a h = tt
answers (Some command) left before mid now done status a h = held_of command (worked_on command left) before mid now done status a h

-- nothing is said of the bytes of a writer that weren't known before
unknown : (command : Command) (worked now : Option (List ℕ)) (status : Status) → HeldOf command worked None now status
unknown command None now status = tt
unknown command (Some bytes) now status = tt

none_held : (asked : Option Command) (left now : Option (List ℕ)) (status : Status) → ProcessAnswers asked left None now status
none_held None left now status = tt
none_held (Some command) left now status = unknown command (worked_on command left) now status

-- the answer of the command is that of the process, if the reader and the writer tell the bytes that are known of them
pub process_answers : (asked : Option Command) (J K : Bool) (left before source sink mid held now : Option (List ℕ)) (done : Bool) (status last : Status)
    → source ≡ told_of J left → sink ≡ told_of K before → J ≡ is_some left → K ≡ is_some before
    → Answers asked source sink mid status → told_of K held ≡ mid → HandsOn done held now → last ≡ last_status done status → ProcessAnswers asked left before now last
process_answers asked J K left None source sink mid held now done status last e f j k a t h l = none_held asked left now last
process_answers asked J true left (Some before) source sink mid held now done status last e f j k a t h l =
    let told = subst (λ (known : Option (List ℕ)). Answers asked known sink mid status) (e ∙ told_all J left j) a in
    let was = subst (λ (known : Option (List ℕ)). Answers asked left known mid status) f told in
    let taken = subst (λ (known : Option (List ℕ)). Answers asked left (Some before) known status) (sym t) was in
    subst (λ (s : Status). ProcessAnswers asked left (Some before) now s) (sym l) (answers asked left (Some before) held now done status taken h)
process_answers asked J false left (Some before) source sink mid held now done status last e f j k a t h l = absurd cc

last_usage : (done : Bool) (status : Status) → (status ≡ Usage → last_status done status ≡ Usage) × (last_status done status ≡ Usage → status ≡ Usage)
last_usage true status = (λ e. e, λ e. e)
last_usage false Done = (λ e. absurd cc, λ e. absurd cc)
last_usage false Refused = (λ e. absurd cc, λ e. absurd cc)
last_usage false Usage = (λ e. e, λ e. e)
last_usage false ReadFault = (λ e. e, λ e. e)
last_usage false WriteFault = (λ e. e, λ e. e)
last_usage false Memory = (λ e. e, λ e. e)

-- a flush makes no command of words that are no command
pub process_usage : (asked : Option Command) (done : Bool) (status last : Status) → ((status ≡ Usage) ↔ (asked ≡ None)) → last ≡ last_status done status → (last ≡ Usage) ↔ (asked ≡ None)
process_usage asked done status last u l =
    let both = last_usage done status in
    (λ e. u.0 (both.1 (sym l ∙ e)), λ e. l ∙ both.0 (u.1 e))
