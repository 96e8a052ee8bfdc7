use Rattle.std.proofs.Common.{rules, ◌≡◌, ◌∙◌, ℕ, ap, sym, length, filter, nat_le, slice_set}
use Rattle.std.proofs.lemmas.List.{get_or_read_under}
use Rattle.fallible_collections.specs.Words.{entries}
use Rattle.fallible_collections.proofs.Laws.{staying_are}
use Rattle.example_sessions.specs.Users.{of_user}
use Rattle.example_sessions.proofs.sessions.Sessions.expire.Goals as goal

pub returns : goal.returns
returns c =
    let stays = λ (s : ℕ × ℕ). nat_le c.args.time s.1 in
    let kept : entries c.retain.new.self ≡ filter stays (entries c.behind-self.inside.seen) =
    staying_are _ (λ f. f.0.now ≡ c.args.time) stays (λ f g e w b made r. search rules) _ _ _ _ (search rules) c.retain.ensures.retained.1 in
    let theirs : entries c.behind-self.inside.seen ≡ of_user c.self.inside.users.items c.args.user =
    c.behind-self.view_is ∙ get_or_read_under _ _ _ _ _ c.index_mut.ensures.value c.requires (ap length (sym c.self.view_is)) in
    rw (← c.self.view_is) (ap (slice_set c.self.inside.users.items c.args.user) (kept ∙ ap (filter stays) theirs))
