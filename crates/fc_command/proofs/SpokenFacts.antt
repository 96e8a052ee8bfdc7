-- What is spoken, one line more at a time.
use Rattle.std.proofs.Common.{◌≡◌, ℕ, List, [], ◌∷◌, ◌++◌, map, Some, refl, sym, ap, ◌∙◌, append_assoc, append-nil}
use Rattle.std.proofs.lemmas.List.{map_push}
use Rattle.std.specs.List.{flat_map}
use Rattle.std.specs.Ordering.{nat_cmp}
use Rattle.fc_command.specs.declared.command.world.World.{World}
use Rattle.fc_lines.specs.declared.command.Command.{Command}
use Rattle.fc_lines.specs.declared.command.Reply.{Reply}
use Rattle.fc_command.specs.Step.{Step, IsNew}
use Rattle.fc_lines.specs.Grammar.{command_of}
use Rattle.fc_lines.specs.Texts.{text_of}
use Rattle.fc_command.specs.Spoken.{SpokenTo}
use Rattle.fc_command.proofs.RunFacts.{runs_more}

pub spoken_none : {Z : Type 0} (w : World ℕ ℕ Z) → IsNew w → SpokenTo [] [] w
spoken_none w new = record { start = w; new = new; commands = []; replies = []; each = refl; run = refl; says = refl }

texts_push : (rs : List (Reply ℕ ℕ)) (r : Reply ℕ ℕ) → flat_map text_of (rs ++ r ∷ []) ≡ flat_map text_of rs ++ text_of r
texts_push [] r = append-nil (text_of r)
texts_push (r0 ∷ rs) r = ap (λ l. text_of r0 ++ l) (texts_push rs r) ∙ sym (append_assoc (text_of r0) (flat_map text_of rs) (text_of r))

-- one line more
pub spoken_more : {Z : Type 0} (front : List (List ℕ)) (said : List ℕ) (w w' : World ℕ ℕ Z) (line : List ℕ) (c : Command ℕ ℕ) (r : Reply ℕ ℕ)
    → SpokenTo front said w → command_of line ≡ Some c → Step nat_cmp (λ _ _. ⊥) (λ _ _. ⊥) w c r w'
    → SpokenTo (front ++ line ∷ []) (said ++ text_of r) w'
spoken_more front said w w' line c r s is step = record {
  start = s.start;
  new = s.new;
  commands = s.commands ++ c ∷ [];
  replies = s.replies ++ r ∷ [];
  each = map_push command_of front line ∙ ap (λ l. l ++ command_of line ∷ []) s.each ∙ ap (λ o. map Some s.commands ++ o ∷ []) is
      ∙ sym (map_push Some s.commands c);
  run = runs_more nat_cmp _ _ s.start _ _ s.commands s.replies c r s.run step;
  says = ap (λ l. l ++ text_of r) s.says ∙ sym (texts_push s.replies r);
}
