-- Rules, "Numbers of sub-areas": the record of a list of sub-areas.
-- Assumes nothing.
use Rattle.std.specs.Prelude.{List, [], ◌∷◌}
use Rattle.site.specs.declared.SubArea.{SubArea}
use Rattle.site.specs.declared.Site.{Site}
use Rattle.site.specs.Parts.{empty_site}
use Rattle.site.specs.Adding.{stored}

-- a site with sub-areas stored one behind the other, as adds store them
unfoldable pub stored_all : Site → List SubArea → Site
stored_all s [] = s
stored_all s (p ∷ ps) = stored_all (stored s p) ps

-- the record of some sub-areas: an empty site with all of them stored, so that their numbers are 1, 2, 3 and so on
abbrev pub site_of : List SubArea → Site
site_of ps = stored_all empty_site ps
