-- The sizes that the devices may have, and their lengths in octets.
use Rattle.std.specs.Prelude.{◌≡◌, ℕ, ◌+◌, ◌*◌, ◌/◌, ◌%◌, ◌≤◌, length, replicate}
use Rattle.site.specs.State.{Image}
use Rattle.site.specs.declared.geometry.Geometry.{Geometry}

-- the sizes are within the limits
pub record HasLimits (g : Geometry) : Type 0 where
  pub pages : 1 ≤ g.pages
  pub few_pages : g.pages ≤ 65536
  pub groups : 8 ≤ g.groups
  pub few_groups : g.groups ≤ 16384
  pub fours : g.groups % 4 ≡ 0
  pub blocks : 16 ≤ g.blocks
  pub few_blocks : g.blocks ≤ 1048576

-- three slots of 512 octets, and one for each block
abbrev pub log_length : Geometry → ℕ
log_length g = 1536 + g.blocks * 512

-- the groups, and of 1,024 octets one segment for each four groups and three more
abbrev pub flash_length : Geometry → ℕ
flash_length g = 33280 * g.groups + 1024 * (g.groups / 4 + 3)

abbrev pub disk_length : Geometry → ℕ
disk_length g = 4096 * g.pages

-- the three contents have these lengths
pub record HasLengths (g : Geometry) (image : Image) : Type 0 where
  pub log : length image.log ≡ log_length g
  pub flash : length image.flash ≡ flash_length g
  pub disk : length image.disk ≡ disk_length g

-- all octets are zero
abbrev pub blank_image : Geometry → Image
blank_image g = record {
  log = replicate (log_length g) 0;
  flash = replicate (flash_length g) 0;
  disk = replicate (disk_length g) 0;
}
