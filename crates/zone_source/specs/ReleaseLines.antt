-- The line that names a release, in a source.
use Rattle.std.specs.{Prelude.{◌≡◌, ◌<◌, ℕ, List, length, All, false, Some}, Str.Lines.{strip_carriage_return}}
use Rattle.zone_source.specs.{Lines.{is_line_feed}, Releases.{line_naming, named_by}}

-- the line names this release, which is something, and is one line of a source as it stands
pub record IsReleaseLine (release : List ℕ) : Type 0 where
  pub some : 0 < length release
  pub names : named_by (line_naming release) ≡ Some release
  pub unbroken : All (λ byte. is_line_feed byte ≡ false) (line_naming release)
  pub kept : strip_carriage_return (line_naming release) ≡ line_naming release
